-- What a projection sees of two transcripts, one after the other, is what it sees of each.
use Rattle.std.proofs.Common.{◌≡◌, ℕ, Bool, true, false, List, [], ◌∷◌, ◌++◌, refl, sym, ap, ◌∙◌, append_assoc}
use Rattle.std.specs.Prelude.{◌||◌}
use Rattle.qh_spec.specs.Transcript.{Act, in_of, out_of, written_of, finishes, pieces_of, ends, handed_in, handed_out, written, finished, pieces_read, joined, read, ended}

or-assoc : (a b c : Bool) → a || (b || c) ≡ (a || b) || c
or-assoc true b c = refl
or-assoc false b c = refl

pub handed_in-append : (t u : List Act) → handed_in (t ++ u) ≡ handed_in t ++ handed_in u
handed_in-append [] u = refl
handed_in-append (a ∷ t) u =
    ap (λ (z : List (List ℕ)). in_of a ++ z) (handed_in-append t u) ∙ sym (append_assoc (in_of a) (handed_in t) (handed_in u))

pub handed_out-append : (t u : List Act) → handed_out (t ++ u) ≡ handed_out t ++ handed_out u
handed_out-append [] u = refl
handed_out-append (a ∷ t) u =
    ap (λ (z : List (List ℕ)). out_of a ++ z) (handed_out-append t u) ∙ sym (append_assoc (out_of a) (handed_out t) (handed_out u))

pub written-append : (t u : List Act) (id : ℕ) → written (t ++ u) id ≡ written t id ++ written u id
written-append [] u id = refl
written-append (a ∷ t) u id =
    ap (λ (z : List ℕ). written_of id a ++ z) (written-append t u id) ∙ sym (append_assoc (written_of id a) (written t id) (written u id))

pub finished-append : (t u : List Act) (id : ℕ) → finished (t ++ u) id ≡ finished t id || finished u id
finished-append [] u id = refl
finished-append (a ∷ t) u id =
    ap (λ (z : Bool). finishes id a || z) (finished-append t u id) ∙ or-assoc (finishes id a) (finished t id) (finished u id)

pub pieces_read-append : (t u : List Act) (id : ℕ) → pieces_read (t ++ u) id ≡ pieces_read t id ++ pieces_read u id
pieces_read-append [] u id = refl
pieces_read-append (a ∷ t) u id =
    ap (λ (z : List (ℕ × List ℕ)). pieces_of id a ++ z) (pieces_read-append t u id)
    ∙ sym (append_assoc (pieces_of id a) (pieces_read t id) (pieces_read u id))

joined-append : (ps qs : List (ℕ × List ℕ)) → joined (ps ++ qs) ≡ joined ps ++ joined qs
joined-append [] qs = refl
joined-append (p ∷ ps) qs = ap (λ (z : List ℕ). p.1 ++ z) (joined-append ps qs) ∙ sym (append_assoc p.1 (joined ps) (joined qs))

pub read-append : (t u : List Act) (id : ℕ) → read (t ++ u) id ≡ read t id ++ read u id
read-append t u id = ap joined (pieces_read-append t u id) ∙ joined-append (pieces_read t id) (pieces_read u id)

pub ended-append : (t u : List Act) (id : ℕ) → ended (t ++ u) id ≡ ended t id || ended u id
ended-append [] u id = refl
ended-append (a ∷ t) u id = ap (λ (z : Bool). ends id a || z) (ended-append t u id) ∙ or-assoc (ends id a) (ended t id) (ended u id)
