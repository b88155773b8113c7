-- The static table (RFC 9204, appendix A).
use Rattle.std.specs.Prelude.{List, [], ◌∷◌, codes}
use Rattle.qh_spec.specs.Fields.{Field}

unfoldable pub static_table : List Field
static_table =
    record { name = codes ":authority"; value = codes "" } ∷
    record { name = codes ":path"; value = codes "/" } ∷
    record { name = codes "age"; value = codes "0" } ∷
    record { name = codes "content-disposition"; value = codes "" } ∷
    record { name = codes "content-length"; value = codes "0" } ∷
    record { name = codes "cookie"; value = codes "" } ∷
    record { name = codes "date"; value = codes "" } ∷
    record { name = codes "etag"; value = codes "" } ∷
    record { name = codes "if-modified-since"; value = codes "" } ∷
    record { name = codes "if-none-match"; value = codes "" } ∷
    record { name = codes "last-modified"; value = codes "" } ∷
    record { name = codes "link"; value = codes "" } ∷
    record { name = codes "location"; value = codes "" } ∷
    record { name = codes "referer"; value = codes "" } ∷
    record { name = codes "set-cookie"; value = codes "" } ∷
    record { name = codes ":method"; value = codes "CONNECT" } ∷
    record { name = codes ":method"; value = codes "DELETE" } ∷
    record { name = codes ":method"; value = codes "GET" } ∷
    record { name = codes ":method"; value = codes "HEAD" } ∷
    record { name = codes ":method"; value = codes "OPTIONS" } ∷
    record { name = codes ":method"; value = codes "POST" } ∷
    record { name = codes ":method"; value = codes "PUT" } ∷
    record { name = codes ":scheme"; value = codes "http" } ∷
    record { name = codes ":scheme"; value = codes "https" } ∷
    record { name = codes ":status"; value = codes "103" } ∷
    record { name = codes ":status"; value = codes "200" } ∷
    record { name = codes ":status"; value = codes "304" } ∷
    record { name = codes ":status"; value = codes "404" } ∷
    record { name = codes ":status"; value = codes "503" } ∷
    record { name = codes "accept"; value = codes "*/*" } ∷
    record { name = codes "accept"; value = codes "application/dns-message" } ∷
    record { name = codes "accept-encoding"; value = codes "gzip, deflate, br" } ∷
    record { name = codes "accept-ranges"; value = codes "bytes" } ∷
    record { name = codes "access-control-allow-headers"; value = codes "cache-control" } ∷
    record { name = codes "access-control-allow-headers"; value = codes "content-type" } ∷
    record { name = codes "access-control-allow-origin"; value = codes "*" } ∷
    record { name = codes "cache-control"; value = codes "max-age=0" } ∷
    record { name = codes "cache-control"; value = codes "max-age=2592000" } ∷
    record { name = codes "cache-control"; value = codes "max-age=604800" } ∷
    record { name = codes "cache-control"; value = codes "no-cache" } ∷
    record { name = codes "cache-control"; value = codes "no-store" } ∷
    record { name = codes "cache-control"; value = codes "public, max-age=31536000" } ∷
    record { name = codes "content-encoding"; value = codes "br" } ∷
    record { name = codes "content-encoding"; value = codes "gzip" } ∷
    record { name = codes "content-type"; value = codes "application/dns-message" } ∷
    record { name = codes "content-type"; value = codes "application/javascript" } ∷
    record { name = codes "content-type"; value = codes "application/json" } ∷
    record { name = codes "content-type"; value = codes "application/x-www-form-urlencoded" } ∷
    record { name = codes "content-type"; value = codes "image/gif" } ∷
    record { name = codes "content-type"; value = codes "image/jpeg" } ∷
    record { name = codes "content-type"; value = codes "image/png" } ∷
    record { name = codes "content-type"; value = codes "text/css" } ∷
    record { name = codes "content-type"; value = codes "text/html; charset=utf-8" } ∷
    record { name = codes "content-type"; value = codes "text/plain" } ∷
    record { name = codes "content-type"; value = codes "text/plain;charset=utf-8" } ∷
    record { name = codes "range"; value = codes "bytes=0-" } ∷
    record { name = codes "strict-transport-security"; value = codes "max-age=31536000" } ∷
    record { name = codes "strict-transport-security"; value = codes "max-age=31536000; includesubdomains" } ∷
    record { name = codes "strict-transport-security"; value = codes "max-age=31536000; includesubdomains; preload" } ∷
    record { name = codes "vary"; value = codes "accept-encoding" } ∷
    record { name = codes "vary"; value = codes "origin" } ∷
    record { name = codes "x-content-type-options"; value = codes "nosniff" } ∷
    record { name = codes "x-xss-protection"; value = codes "1; mode=block" } ∷
    record { name = codes ":status"; value = codes "100" } ∷
    record { name = codes ":status"; value = codes "204" } ∷
    record { name = codes ":status"; value = codes "206" } ∷
    record { name = codes ":status"; value = codes "302" } ∷
    record { name = codes ":status"; value = codes "400" } ∷
    record { name = codes ":status"; value = codes "403" } ∷
    record { name = codes ":status"; value = codes "421" } ∷
    record { name = codes ":status"; value = codes "425" } ∷
    record { name = codes ":status"; value = codes "500" } ∷
    record { name = codes "accept-language"; value = codes "" } ∷
    record { name = codes "access-control-allow-credentials"; value = codes "FALSE" } ∷
    record { name = codes "access-control-allow-credentials"; value = codes "TRUE" } ∷
    record { name = codes "access-control-allow-headers"; value = codes "*" } ∷
    record { name = codes "access-control-allow-methods"; value = codes "get" } ∷
    record { name = codes "access-control-allow-methods"; value = codes "get, post, options" } ∷
    record { name = codes "access-control-allow-methods"; value = codes "options" } ∷
    record { name = codes "access-control-expose-headers"; value = codes "content-length" } ∷
    record { name = codes "access-control-request-headers"; value = codes "content-type" } ∷
    record { name = codes "access-control-request-method"; value = codes "get" } ∷
    record { name = codes "access-control-request-method"; value = codes "post" } ∷
    record { name = codes "alt-svc"; value = codes "clear" } ∷
    record { name = codes "authorization"; value = codes "" } ∷
    record { name = codes "content-security-policy"; value = codes "script-src 'none'; object-src 'none'; base-uri 'none'" } ∷
    record { name = codes "early-data"; value = codes "1" } ∷
    record { name = codes "expect-ct"; value = codes "" } ∷
    record { name = codes "forwarded"; value = codes "" } ∷
    record { name = codes "if-range"; value = codes "" } ∷
    record { name = codes "origin"; value = codes "" } ∷
    record { name = codes "purpose"; value = codes "prefetch" } ∷
    record { name = codes "server"; value = codes "" } ∷
    record { name = codes "timing-allow-origin"; value = codes "*" } ∷
    record { name = codes "upgrade-insecure-requests"; value = codes "1" } ∷
    record { name = codes "user-agent"; value = codes "" } ∷
    record { name = codes "x-forwarded-for"; value = codes "" } ∷
    record { name = codes "x-frame-options"; value = codes "deny" } ∷
    record { name = codes "x-frame-options"; value = codes "sameorigin" } ∷ []
