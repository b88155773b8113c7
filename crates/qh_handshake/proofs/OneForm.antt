-- Bytes begin with one Initial packet at most.
use Rattle.std.proofs.Common.{◌≡◌, ℕ, List, ◌∷◌, ◌++◌, length, get_or, drop, sym, ap, ◌∙◌}
use Rattle.qh_handshake.specs.Incoming.{Form}
use Rattle.qh_packet.specs.Initial.{BeginsWithInitial}
use Rattle.qh_spec.proofs.Cuts.{halves, inner, varints_agree}
use Rattle.qh_spec.proofs.PacketLaws.{forms_agree}
use Rattle.qh_spec.specs.Datagram.{IsInitialForm}

-- they are read as one of one source id and one token alone
pub ids_agree : (a x b y : List ℕ) (m n : ℕ) (c d : List ℕ) (i : IsInitialForm a m c) (j : IsInitialForm b n d) → a ++ x ≡ b ++ y → (i.source ≡ j.source) × (i.token ≡ j.token)
ids_agree a x b y m n c d i j e =
    let ti : List ℕ = i.token ++ (i.body_length ++ c) in
    let tj : List ℕ = j.token ++ (j.body_length ++ d) in
    let si : List ℕ = i.source ++ (i.token_length ++ ti) in
    let sj : List ℕ = j.source ++ (j.token_length ++ tj) in
    let di : List ℕ = i.destination ++ (length i.source ∷ si) in
    let dj : List ℕ = j.destination ++ (length j.source ∷ sj) in
    let both : m ∷ 0 ∷ 0 ∷ 0 ∷ 1 ∷ length i.destination ∷ (di ++ x) ≡ n ∷ 0 ∷ 0 ∷ 0 ∷ 1 ∷ length j.destination ∷ (dj ++ y)
    = ap (λ (z : List ℕ). z ++ x) (sym i.whole) ∙ e ∙ ap (λ (z : List ℕ). z ++ y) j.whole in
    let dlen : length i.destination ≡ length j.destination = ap (λ (z : List ℕ). get_or z 5 0) both in
    let drest : di ++ x ≡ dj ++ y = ap (λ (z : List ℕ). drop 6 z) both in
    let dcut = halves i.destination ((length i.source ∷ si) ++ x) j.destination ((length j.source ∷ sj) ++ y) dlen (inner i.destination (length i.source ∷ si) x j.destination (length j.source ∷ sj) y drest) in
    let slen : length i.source ≡ length j.source = ap (λ (z : List ℕ). get_or z 0 0) dcut.1 in
    let srest : si ++ x ≡ sj ++ y = ap (λ (z : List ℕ). drop 1 z) dcut.1 in
    let scut = halves i.source ((i.token_length ++ ti) ++ x) j.source ((j.token_length ++ tj) ++ y) slen (inner i.source (i.token_length ++ ti) x j.source (j.token_length ++ tj) y srest) in
    let tcount = varints_agree i.token_length (ti ++ x) j.token_length (tj ++ y) (length i.token) (length j.token) i.token_is j.token_is (inner i.token_length ti x j.token_length tj y scut.1) in
    (scut.0, (halves i.token ((i.body_length ++ c) ++ x) j.token ((j.body_length ++ d) ++ y) tcount.0 (inner i.token (i.body_length ++ c) x j.token (j.body_length ++ d) y tcount.1)).0)

-- the packet, and what stands behind it
pub one_form : (bytes d e x y : List ℕ) (f g : Form) → BeginsWithInitial bytes f.first d f.source f.token f.body x → BeginsWithInitial bytes g.first e g.source g.token g.body y → (f ≡ g) × (x ≡ y)
one_form bytes d e x y f g a b =
    let whole = sym a.whole ∙ b.whole in
    let ids = ids_agree a.front x b.front y f.first g.first f.body g.body a.form b.form whole in
    let form = forms_agree a.front x b.front y f.first g.first f.body g.body a.form b.form whole in
    let source : f.source ≡ g.source = sym a.source_is ∙ ids.0 ∙ b.source_is in
    let token : f.token ≡ g.token = sym a.token_is ∙ ids.1 ∙ b.token_is in (
      ap (λ (n : ℕ). record f { first = n }) form.0 ∙ ap (λ (z : List ℕ). record f { first = g.first; source = z }) source
          ∙ ap (λ (z : List ℕ). record f { first = g.first; source = g.source; token = z }) token ∙ ap (λ (z : List ℕ). record g { body = z }) form.1,
      form.2,
    )
