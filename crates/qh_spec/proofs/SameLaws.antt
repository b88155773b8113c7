-- Being the same is an equivalence.
use Rattle.std.proofs.Common.{Option, Some, None, refl, sym, ◌∙◌}
use Rattle.http_header.specs.HeaderMap.{Entries}
use Rattle.http_header.specs.FieldValue.{FieldValue}
use Rattle.qh_spec.specs.Message.{PlainTarget, PlainHead, Request, Response, PlainMessage}
use Rattle.qh_spec.specs.Same.{SameTrailers, SameTarget, SameHead, SameMessage}

pub target_refl : (t : PlainTarget) → SameTarget t t
target_refl t = record { scheme = refl; authority = refl; path = refl; query = refl }

pub target_sym : (t u : PlainTarget) → SameTarget t u → SameTarget u t
target_sym t u e = record { scheme = sym e.scheme; authority = sym e.authority; path = sym e.path; query = sym e.query }

pub target_trans : (t u v : PlainTarget) → SameTarget t u → SameTarget u v → SameTarget t v
target_trans t u v e f =
    record { scheme = e.scheme ∙ f.scheme; authority = e.authority ∙ f.authority; path = e.path ∙ f.path; query = e.query ∙ f.query }

head_refl : (a : PlainHead) → SameHead a a
head_refl (Request m t) = (refl, target_refl t)
head_refl (Response s) = refl

head_sym : (a b : PlainHead) → SameHead a b → SameHead b a
head_sym (Request m t) (Request n u) e = (sym e.0, target_sym t u e.1)
head_sym (Response s) (Response t) e = sym e
head_sym (Request m t) (Response s) e = absurd e
head_sym (Response s) (Request m t) e = absurd e

head_trans : (a b c : PlainHead) → SameHead a b → SameHead b c → SameHead a c
head_trans (Request m t) (Request n u) (Request o v) e f = (e.0 ∙ f.0, target_trans t u v e.1 f.1)
head_trans (Response s) (Response t) (Response u) e f = e ∙ f
head_trans (Request m t) (Response s) c e f = absurd e
head_trans (Response s) (Request m t) c e f = absurd e
head_trans (Request m t) (Request n u) (Response s) e f = absurd f
head_trans (Response s) (Response t) (Request m u) e f = absurd f

trailers_refl : (a : Option (Entries FieldValue)) → SameTrailers a a
trailers_refl None = tt
trailers_refl (Some a) = λ name. refl

trailers_sym : (a b : Option (Entries FieldValue)) → SameTrailers a b → SameTrailers b a
trailers_sym None None e = tt
trailers_sym (Some a) (Some b) e = λ name. sym (e name)
trailers_sym None (Some b) e = absurd e
trailers_sym (Some a) None e = absurd e

trailers_trans : (a b c : Option (Entries FieldValue)) → SameTrailers a b → SameTrailers b c → SameTrailers a c
trailers_trans None None c e f = f
trailers_trans None (Some b) c e f = absurd e
trailers_trans (Some a) None c e f = absurd e
trailers_trans (Some a) (Some b) None e f = absurd f
trailers_trans (Some a) (Some b) (Some c) e f = λ name. e name ∙ f name

pub same_refl : (a : PlainMessage) → SameMessage a a
same_refl a = record { head = head_refl a.head; fields = λ name. refl; body = refl; trailers = trailers_refl a.trailers }

pub same_sym : (a b : PlainMessage) → SameMessage a b → SameMessage b a
same_sym a b e = record { head = head_sym a.head b.head e.head; fields = λ name. sym (e.fields name); body = sym e.body; trailers = trailers_sym a.trailers b.trailers e.trailers }

pub same_trans : (a b c : PlainMessage) → SameMessage a b → SameMessage b c → SameMessage a c
same_trans a b c e f = record {
  head = head_trans a.head b.head c.head e.head f.head;
  fields = λ name. e.fields name ∙ f.fields name;
  body = e.body ∙ f.body;
  trailers = trailers_trans a.trailers b.trailers c.trailers e.trailers f.trailers;
}
