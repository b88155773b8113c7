-- Messages, their fields and their bytes, for laws that read them (own).
use Rattle.std.specs.Prelude.{ℕ, List, [], ◌∷◌, ◌++◌, codes, Some, None}
use Rattle.http_header.specs.FieldValue.{FieldValue, plain_value}
use Rattle.http_header.specs.HeaderMap.{Entries}
use Rattle.qh_spec.specs.Fields.{Field}
use Rattle.qh_spec.specs.Message.{PlainTarget, PlainMessage, Request, Response}

-- https://a.test/
abbrev pub a_target : PlainTarget
a_target = record { scheme = Some (codes "https"); authority = Some (codes "a.test"); path_and_query = codes "/" }

-- GET https://a.test/
abbrev pub get_message : PlainMessage
get_message = record { head = Request (codes "GET") a_target; fields = []; body = []; trailers = None }

-- GET https://b.test/
abbrev pub other_message : PlainMessage
other_message = record {
  head = Request (codes "GET") (record { scheme = Some (codes "https"); authority = Some (codes "b.test"); path_and_query = codes "/" });
  fields = [];
  body = [];
  trailers = None;
}

-- CONNECT https://a.test/
abbrev pub connect_message : PlainMessage
connect_message = record { head = Request (codes "CONNECT") a_target; fields = []; body = []; trailers = None }

-- status 200
abbrev pub ok_message : PlainMessage
ok_message = record { head = Response 200; fields = []; body = []; trailers = None }

-- status 200 with a body of seven bytes and a trailer
abbrev pub long_message : PlainMessage
long_message = record {
  head = Response 200;
  fields = [];
  body = codes "1234567";
  trailers = Some ((codes "age", plain_value (codes "0") ∷ []) ∷ []);
}

-- the fields of GET https://a.test/
abbrev pub get_fields : List Field
get_fields =
    record { name = codes ":method"; value = codes "GET" } ∷ record { name = codes ":scheme"; value = codes "https" }
    ∷ record { name = codes ":authority"; value = codes "a.test" } ∷ record { name = codes ":path"; value = codes "/" } ∷ []

-- its section
abbrev pub get_section : List ℕ
get_section = 0 ∷ 0 ∷ 209 ∷ 215 ∷ 80 ∷ 6 ∷ 97 ∷ 46 ∷ 116 ∷ 101 ∷ 115 ∷ 116 ∷ 193 ∷ []

-- its HEADERS frame
abbrev pub get_bytes : List ℕ
get_bytes = 1 ∷ 13 ∷ get_section

-- the HEADERS frame of status 200
abbrev pub ok_bytes : List ℕ
ok_bytes = 1 ∷ 3 ∷ 0 ∷ 0 ∷ 217 ∷ []

-- the HEADERS frame of status 200, a frame of a type that is kept for tests of skipping, a DATA frame of four bytes, an
-- empty one, one of three, and the HEADERS frame of a trailer
abbrev pub long_bytes : List ℕ
long_bytes =
    ok_bytes ++ (33 ∷ 6 ∷ (codes "grease" ++ (0 ∷ 4 ∷ (codes "1234" ++ (0 ∷ 0 ∷ 0 ∷ 3 ∷ (codes "567" ++ (1 ∷ 3 ∷ 0 ∷ 0 ∷ 194 ∷ [])))))))

-- a list of fields in which pseudo fields come twice, and one with two hosts
abbrev pub twice_fields : List Field
twice_fields =
    record { name = codes ":method"; value = codes "PUT" } ∷ record { name = codes ":path"; value = codes "/x" } ∷ get_fields

abbrev pub hosts_fields : List Field
hosts_fields = get_fields ++ record { name = codes "host"; value = codes "b.test" } ∷ []

-- the fields of GET without a method, and with nothing but a method
abbrev pub no_method_fields : List Field
no_method_fields = record { name = codes ":scheme"; value = codes "https" } ∷ []

abbrev pub no_authority_fields : List Field
no_authority_fields = record { name = codes ":method"; value = codes "GET" } ∷ []

-- a field whose name isn't in lower case
abbrev pub upper_fields : List Field
upper_fields = record { name = codes "Host"; value = codes "a.test" } ∷ []

-- two names in one order and in the other, and two values of a name in one order and in the other
abbrev pub age_link : Entries FieldValue
age_link = (codes "age", plain_value (codes "1") ∷ []) ∷ (codes "link", plain_value (codes "2") ∷ []) ∷ []

abbrev pub link_age : Entries FieldValue
link_age = (codes "link", plain_value (codes "2") ∷ []) ∷ (codes "age", plain_value (codes "1") ∷ []) ∷ []

abbrev pub two_ages : Entries FieldValue
two_ages = (codes "age", plain_value (codes "1") ∷ plain_value (codes "2") ∷ []) ∷ []

abbrev pub two_ages_turned : Entries FieldValue
two_ages_turned = (codes "age", plain_value (codes "2") ∷ plain_value (codes "1") ∷ []) ∷ []
