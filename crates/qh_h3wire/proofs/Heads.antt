-- Reading fields one by one.
use Rattle.std.proofs.Common.{◌≡◌, ◌≢◌, inl, inr, ℕ, suc, ◌+◌, ◌<◌, ◌≤◌, true, List, [], ◌∷◌, ◌++◌, length, take, drop, get_or, Some, refl, sym, ap, ◌∙◌, subst, arith, append-nil, append_assoc}
use Rattle.std.specs.Prelude.{codes, slice_index, Result, Ok, Err, OnOk, IfErr}
use Rattle.std.specs.Option.{option_map}
use Rattle.std.proofs.lemmas.List.{take_all}
use Rattle.http_header.specs.FieldName.{IsHeaderName}
use Rattle.http_header.specs.FieldValue.{FieldValue}
use Rattle.http_header.specs.HeaderMap.{Entries, append, RefusesAppend}
use Rattle.http_uri.specs.Grammar.{without_fragment}
use Rattle.qh_spec.specs.Fields.{Field}
use Rattle.qh_spec.specs.Meaning.{IsReadable, method, scheme, authority, path, status, plain, is_pseudo_name}
use Rattle.qh_spec.specs.Refusal as told
use Rattle.qh_spec.specs.Refusal.{HeaderFault, fields_map, IsOneTooMany, IsTaken, IsFieldFault, AreTaken, IsRefused}
use Rattle.qh_h3wire.specs.HeadFields.{with_fields, with_parsed}
use Rattle.qh_h3wire.specs.Header.{trailer_header, IsHeaderOf}
use Rattle.qh_h3wire.specs.HeadReading.{AreRead, RefusesLine, TakesLine}
use Rattle.qh_h3wire.specs.HeaderFault.{IfFault, IsParsed, RefusesField, RefusesMore, HasRoomFor}
use Rattle.qh_h3wire.specs.PlainHeader.{PlainHeader}
use Rattle.qh_h3wire.specs.declared.headers.HeaderError.{HeaderError}
use Rattle.qh_h3wire.specs.declared.headers.HeaderError.TheVariants.{InvalidHeaderName, InvalidHeaderValue, InvalidRequest, MissingMethod, MissingStatus, MissingAuthority, ContradictedAuthority, Memory}
use Rattle.qh_h3wire.specs.declared.headers.field.ParsedField.{ParsedField}
use Rattle.qh_h3wire.specs.declared.headers.field.ParsedField.TheVariants.{Method, Scheme, Authority, Path, Status, Plain}
use Rattle.qh_h3wire.specs.declared.headers.pseudo.Pseudo.{Pseudo}
use Rattle.qh_h3wire.proofs.FieldLists.{pseudo_own, pseudo_other, map_plain, map_pseudo, field_split, field_more}
use Rattle.qh_h3wire.proofs.Readable.{is_plain, named, apart}

abbrev m-name : List ℕ
m-name = codes ":method"

abbrev s-name : List ℕ
s-name = codes ":scheme"

abbrev a-name : List ℕ
a-name = codes ":authority"

abbrev p-name : List ℕ
p-name = codes ":path"

abbrev n-name : List ℕ
n-name = codes ":status"

taken_more : (front fs : List Field) (f : Field) → AreTaken front fs → IsTaken (front ++ fs) f → AreTaken front (fs ++ f ∷ [])
taken_more front [] f a t = (subst (λ (z : List Field). IsTaken z f) (append-nil front) t, tt)
taken_more front (g ∷ fs) f a t = (a.0, taken_more (front ++ g ∷ []) fs f a.1 (subst (λ (z : List Field). IsTaken z f) (sym (append_assoc front (g ∷ []) fs)) t))

refused_more : (front fs rest : List Field) (f : Field) (e : HeaderFault) → AreTaken front fs → IsFieldFault (front ++ fs) f e → IsRefused front (fs ++ f ∷ rest) e
refused_more front [] rest f e a r = inl (subst (λ (z : List Field). IsFieldFault z f e) (append-nil front) r)
refused_more front (g ∷ fs) rest f e a r =
    inr (a.0, refused_more (front ++ g ∷ []) fs rest f e a.1 (subst (λ (z : List Field). IsFieldFault z f e) (sym (append_assoc front (g ∷ []) fs)) r))

-- an error whose fault is one of this field is one of the whole list
pub fault_in : (P Q : HeaderFault → Type 0) (e : HeaderError) → ((a : HeaderFault) → P a → Q a) → IfFault e P → IfFault e Q
fault_in P Q InvalidHeaderName w h = w told.InvalidHeaderName h
fault_in P Q InvalidHeaderValue w h = w told.InvalidHeaderValue h
fault_in P Q InvalidRequest w h = w told.InvalidRequest h
fault_in P Q MissingMethod w h = w told.MissingMethod h
fault_in P Q MissingStatus w h = w told.MissingStatus h
fault_in P Q MissingAuthority w h = w told.MissingAuthority h
fault_in P Q ContradictedAuthority w h = w told.ContradictedAuthority h
fault_in P Q Memory w h = tt

pub readable_of : (f : Field) (p : ParsedField) → IsParsed f p → IsReadable f
readable_of f (Method m) h = method h.0 h.1
readable_of f (Scheme s) h = scheme h.0 h.1
readable_of f (Authority a) h = authority h.0 h.1
readable_of f (Path d) h = path h.0 h.1
readable_of f (Status n) h = status h.0 h.1
readable_of f (Plain n v) h = plain h.0 h.1

-- a field that was read, and for which there is room, is kept
room_kept : (front : List Field) (f : Field) (p : ParsedField) → IsParsed f p → HasRoomFor (fields_map front) p → IsOneTooMany front f → ⊥
room_kept front f (Method m) h r o = named f.name m-name h.0 refl o.0
room_kept front f (Scheme s) h r o = named f.name s-name h.0 refl o.0
room_kept front f (Authority a) h r o = named f.name a-name h.0 refl o.0
room_kept front f (Path d) h r o = named f.name p-name h.0 refl o.0
room_kept front f (Status n) h r o = named f.name n-name h.0 refl o.0
room_kept front f (Plain n v) h r o = r (subst (λ (z : List ℕ). RefusesAppend (fields_map front) z) (sym h.2) o.1)

-- and else is refused
pub unread : (front : List Field) (f : Field) (e : HeaderError) → RefusesField e f → RefusesLine e front f
unread front f InvalidHeaderName r = inl r
unread front f InvalidHeaderValue r = r
unread front f InvalidRequest r = absurd r
unread front f MissingMethod r = absurd r
unread front f MissingStatus r = absurd r
unread front f MissingAuthority r = absurd r
unread front f ContradictedAuthority r = absurd r
unread front f Memory r = tt

no_room : (front : List Field) (f : Field) (p : ParsedField) → IsParsed f p → RefusesMore InvalidHeaderName (fields_map front) p → IsFieldFault front f told.InvalidHeaderName
no_room front f (Plain n v) h r = inr (plain h.0 h.1, (h.0, subst (λ (z : List ℕ). RefusesAppend (fields_map front) z) h.2 r))
no_room front f (Method m) h r = absurd r
no_room front f (Scheme s) h r = absurd r
no_room front f (Authority a) h r = absurd r
no_room front f (Path d) h r = absurd r
no_room front f (Status n) h r = absurd r

unkept : (front : List Field) (f : Field) (p : ParsedField) (e : HeaderError) → IsParsed f p → RefusesMore e (fields_map front) p → RefusesLine e front f
unkept front f p InvalidHeaderName h r = no_room front f p h r
unkept front f p InvalidHeaderValue h r = absurd r
unkept front f p InvalidRequest h r = absurd r
unkept front f p MissingMethod h r = absurd r
unkept front f p MissingStatus h r = absurd r
unkept front f p MissingAuthority h r = absurd r
unkept front f p ContradictedAuthority h r = absurd r
unkept front f p Memory h r = tt

other : (f : Field) (own name : List ℕ) → f.name ≡ own → slice_index own 2 ≢ slice_index name 2 → f.name ≢ name
other f own name e n same = apart f.name own name e same n

pseudo_name : (f : Field) (own : List ℕ) → f.name ≡ own → is_pseudo_name own ≡ true → is_pseudo_name f.name ≡ true
pseudo_name f own e t = ap is_pseudo_name e ∙ t

plain_other : (f : Field) (name : List ℕ) → IsHeaderName f.name → slice_index name 0 ≡ 58 → f.name ≢ name
plain_other f name h c e = named f.name name e c h

header_more : (fs : List Field) (f : Field) (p : ParsedField) (h : PlainHeader) → IsParsed f p → IsHeaderOf fs h → IsHeaderOf (fs ++ f ∷ []) (with_parsed p h)
header_more fs f (Method m) h i r = record {
  method = ap Some i.2 ∙ sym (pseudo_own m-name fs f i.0);
  scheme = r.scheme ∙ sym (pseudo_other s-name fs f (other f m-name s-name i.0 (omega arith)));
  authority = r.authority ∙ sym (pseudo_other a-name fs f (other f m-name a-name i.0 (omega arith)));
  path = r.path ∙ ap (option_map without_fragment) (sym (pseudo_other p-name fs f (other f m-name p-name i.0 (omega arith))));
  status = r.status ∙ sym (pseudo_other n-name fs f (other f m-name n-name i.0 (omega arith)));
  fields_are = r.fields_are ∙ sym (map_pseudo fs f (pseudo_name f m-name i.0 refl));
}
header_more fs f (Scheme s) h i r = record {
  method = r.method ∙ sym (pseudo_other m-name fs f (other f s-name m-name i.0 (omega arith)));
  scheme = ap Some i.2 ∙ sym (pseudo_own s-name fs f i.0);
  authority = r.authority ∙ sym (pseudo_other a-name fs f (other f s-name a-name i.0 (omega arith)));
  path = r.path ∙ ap (option_map without_fragment) (sym (pseudo_other p-name fs f (other f s-name p-name i.0 (omega arith))));
  status = r.status ∙ sym (pseudo_other n-name fs f (other f s-name n-name i.0 (omega arith)));
  fields_are = r.fields_are ∙ sym (map_pseudo fs f (pseudo_name f s-name i.0 refl));
}
header_more fs f (Authority a) h i r = record {
  method = r.method ∙ sym (pseudo_other m-name fs f (other f a-name m-name i.0 (omega arith)));
  scheme = r.scheme ∙ sym (pseudo_other s-name fs f (other f a-name s-name i.0 (omega arith)));
  authority = ap Some i.2 ∙ sym (pseudo_own a-name fs f i.0);
  path = r.path ∙ ap (option_map without_fragment) (sym (pseudo_other p-name fs f (other f a-name p-name i.0 (omega arith))));
  status = r.status ∙ sym (pseudo_other n-name fs f (other f a-name n-name i.0 (omega arith)));
  fields_are = r.fields_are ∙ sym (map_pseudo fs f (pseudo_name f a-name i.0 refl));
}
header_more fs f (Path d) h i r = record {
  method = r.method ∙ sym (pseudo_other m-name fs f (other f p-name m-name i.0 (omega arith)));
  scheme = r.scheme ∙ sym (pseudo_other s-name fs f (other f p-name s-name i.0 (omega arith)));
  authority = r.authority ∙ sym (pseudo_other a-name fs f (other f p-name a-name i.0 (omega arith)));
  path = ap Some i.2 ∙ ap (option_map without_fragment) (sym (pseudo_own p-name fs f i.0));
  status = r.status ∙ sym (pseudo_other n-name fs f (other f p-name n-name i.0 (omega arith)));
  fields_are = r.fields_are ∙ sym (map_pseudo fs f (pseudo_name f p-name i.0 refl));
}
header_more fs f (Status n) h i r = record {
  method = r.method ∙ sym (pseudo_other m-name fs f (other f n-name m-name i.0 (omega arith)));
  scheme = r.scheme ∙ sym (pseudo_other s-name fs f (other f n-name s-name i.0 (omega arith)));
  authority = r.authority ∙ sym (pseudo_other a-name fs f (other f n-name a-name i.0 (omega arith)));
  path = r.path ∙ ap (option_map without_fragment) (sym (pseudo_other p-name fs f (other f n-name p-name i.0 (omega arith))));
  status = ap Some i.2 ∙ sym (pseudo_own n-name fs f i.0);
  fields_are = r.fields_are ∙ sym (map_pseudo fs f (pseudo_name f n-name i.0 refl));
}
header_more fs f (Plain n v) h i r = record {
  method = r.method ∙ sym (pseudo_other m-name fs f (plain_other f m-name i.0 refl));
  scheme = r.scheme ∙ sym (pseudo_other s-name fs f (plain_other f s-name i.0 refl));
  authority = r.authority ∙ sym (pseudo_other a-name fs f (plain_other f a-name i.0 refl));
  path = r.path ∙ ap (option_map without_fragment) (sym (pseudo_other p-name fs f (plain_other f p-name i.0 refl)));
  status = r.status ∙ sym (pseudo_other n-name fs f (plain_other f n-name i.0 refl));
  fields_are =
      ap (λ (z : Entries FieldValue). append z n v) r.fields_are ∙ ap (λ (z : List ℕ). append (fields_map fs) z v) i.2 ∙ ap (λ (z : FieldValue). append (fields_map fs) f.name z) i.3
      ∙ sym (map_plain fs f (is_plain f.name i.0));
}

pub none_read : AreRead [] (trailer_header [])
none_read = record { taken = tt; is = record { method = refl; scheme = refl; authority = refl; path = refl; status = refl; fields_are = refl } }

-- one line more was read and kept
one_read : (front : List Field) (f : Field) (p : ParsedField) (m n : Entries FieldValue) (a b : Pseudo) → IsParsed f p → HasRoomFor m p → with_fields n b ≡ with_parsed p (with_fields m a)
    → AreRead front (with_fields m a) → AreRead (front ++ f ∷ []) (with_fields n b)
one_read front f p m n a b h room k r =
    let free : HasRoomFor (fields_map front) p = subst (λ (z : Entries FieldValue). HasRoomFor z p) r.is.fields_are room in
    record {
      taken = taken_more [] front f r.taken (readable_of f p h, room_kept front f p h free);
      is = subst (λ (z : PlainHeader). IsHeaderOf (front ++ f ∷ []) z) (sym k) (header_more front f p (with_fields m a) h r.is);
    }

-- a line that was read is kept, or there is no room for it
pub line_kept : {T : Type 0} (r : Result T HeaderError) (front : List Field) (f : Field) (p : ParsedField) (m n : Entries FieldValue) (a b : Pseudo) → IsParsed f p
    → OnOk r (with_fields n b ≡ with_parsed p (with_fields m a)) → OnOk r (HasRoomFor m p) → IfErr r (λ e. RefusesMore e m p) → AreRead front (with_fields m a) → TakesLine r front f (with_fields n b)
line_kept (Ok x) front f p m n a b h k room more r = one_read front f p m n a b h room k r
line_kept (Err e) front f p m n a b h k room more r = unkept front f p e h (subst (λ (z : Entries FieldValue). RefusesMore e z p) r.is.fields_are more)

pub split_at : (fs : List Field) (i : ℕ) (f : Field) → i < length fs → f ≡ get_or fs i f → fs ≡ take i fs ++ f ∷ drop (suc i) fs
split_at fs i f l same = field_split fs i f l ∙ ap (λ (z : Field). take i fs ++ z ∷ drop (suc i) fs) (sym same)

pub in_list : (fs : List Field) (i : ℕ) (f : Field) (e : HeaderError) → fs ≡ take i fs ++ f ∷ drop (suc i) fs → AreTaken [] (take i fs) → IfFault e (IsFieldFault (take i fs) f) → IfFault e (IsRefused [] fs)
in_list fs i f e split t h =
    subst (λ (z : List Field). IfFault e (IsRefused [] z)) (sym split)
    (fault_in (IsFieldFault (take i fs) f) (IsRefused [] (take i fs ++ f ∷ drop (suc i) fs)) e (λ a r. refused_more [] (take i fs) (drop (suc i) fs) f a t r) h)

-- a line isn't kept
pub line_refused : (fs : List Field) (i : ℕ) (f : Field) (e : HeaderError) (h : PlainHeader) → i < length fs → f ≡ get_or fs i f → AreRead (take i fs) h → RefusesLine e (take i fs) f
    → IfFault e (IsRefused [] fs)
line_refused fs i f e h l same r fault = in_list fs i f e (split_at fs i f l same) r.taken fault

-- a line more is kept
pub line_more : (fs : List Field) (i : ℕ) (f : Field) (h : PlainHeader) → i < length fs → f ≡ get_or fs i f → AreRead (take i fs ++ f ∷ []) h → AreRead (take (i + 1) fs) h
line_more fs i f h l e r =
    let more : take (i + 1) fs ≡ take i fs ++ f ∷ [] = field_more fs i f l ∙ ap (λ (z : Field). take i fs ++ z ∷ []) (sym e) in
    rw more r

-- all were read
pub all_read : (fs : List Field) (i : ℕ) (h : PlainHeader) → length fs ≤ i → AreRead (take i fs) h → AreRead fs h
all_read fs i h l r = subst (λ (z : List Field). AreRead z h) (take_all i fs l) r
