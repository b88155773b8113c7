-- Frames that were handed over and are lost, the last one first.
use Rattle.std.proofs.Common.{◌≡◌, ℕ, ◌<◌, ◌≤◌, List, [], ◌∷◌, ◌++◌, length, take, drop, reverse, Option, Some, None, refl, sym, ap, ◌∙◌, subst, append_assoc, arith}
use Rattle.std.proofs.lemmas.List.{append-nil, drop-append-le, length-append, reverse-append, take-append-le}
use Rattle.std.proofs.Math.Seq.{take-append_seam}
use Rattle.qh_streams.proofs.StreamsSettledAll.{is_out_behind}
use Rattle.qh_streams.specs.declared.frames.SentFrame.{SentFrame}
use Rattle.qh_streams.specs.Streams.{PlainStreams, AreAllOut, AreLost, IsLostFrame, IsOut, KeepsOut}
use Rattle.qh_streams.specs.Streams.AreLost.{none as none_lost, more as more_lost}

-- those behind the ones that are left are lost
pub record AreTakenSoFar (before : ℕ) (old now : PlainStreams) (sent_old sent_now : List SentFrame) : Type 0 where
  pub gone : List SentFrame
  pub lost : AreLost old now (reverse gone)
  pub list_is : sent_old ≡ sent_now ++ gone
  pub enough : before ≤ length sent_now
  pub keeps_out : KeepsOut old now

pub none_taken_yet : (before : ℕ) (s : PlainStreams) (sent : List SentFrame) → before ≤ length sent → AreTakenSoFar before s s sent sent
none_taken_yet before s sent within = record {
  gone = [];
  lost = none_lost s;
  list_is = sym (append-nil sent);
  enough = within;
  keeps_out = λ _ out. out;
}

module _ (before : ℕ) (old now : PlainStreams) (sent_old sent_now rest : List SentFrame) (f : SentFrame) (so : AreTakenSoFar before old now sent_old sent_now)
    (last : sent_now ≡ rest ++ f ∷ []) (some : before < length sent_now) where
  lengths : before ≤ length rest
  lengths = let sum = ap length last ∙ length-append rest (f ∷ []) in omega (arith, sum, some)

  list : sent_old ≡ rest ++ (f ∷ so.gone)
  list = so.list_is ∙ ap (λ (l : List SentFrame). l ++ so.gone) last ∙ append_assoc rest (f ∷ []) so.gone

  pub last_is_out : AreAllOut old (drop before sent_old) → IsOut now f
  last_is_out out =
      so.keeps_out f (is_out_behind old (drop before rest) f so.gone
      (subst (λ (l : List SentFrame). AreAllOut old l) (ap (drop before) list ∙ drop-append-le before rest (f ∷ so.gone) lengths) out))

  pub one_more_taken : (new : PlainStreams) → IsLostFrame now new f → KeepsOut now new → AreTakenSoFar before old new sent_old rest
  one_more_taken new lost keeps = record {
    gone = f ∷ so.gone;
    lost = subst (λ (l : List SentFrame). AreLost old new l) (sym (reverse-append (f ∷ []) so.gone)) (more_lost old now new (reverse so.gone) f so.lost lost);
    list_is = list;
    enough = lengths;
    keeps_out = λ g out. keeps g (so.keeps_out g out);
  }

module _ (before : ℕ) (old now : PlainStreams) (sent_old sent_now : List SentFrame) (so : AreTakenSoFar before old now sent_old sent_now) (none : length sent_now ≤ before) where
  exact : before ≡ length sent_now
  exact = let enough = so.enough in omega (arith, enough, none)

  pub all_taken : AreLost old now (reverse (drop before sent_old))
  all_taken =
      subst (λ (l : List SentFrame). AreLost old now (reverse l)) (sym (ap (drop before) so.list_is ∙ ap (λ (n : ℕ). drop n (sent_now ++ so.gone)) exact ∙ drop_seam sent_now so.gone)) so.lost
    where
      drop_seam : (xs ys : List SentFrame) → drop (length xs) (xs ++ ys) ≡ ys
      drop_seam [] ys = refl
      drop_seam (x ∷ xs) ys = drop_seam xs ys

  pub rest_left : sent_now ≡ take before sent_old
  rest_left = sym (ap (take before) so.list_is ∙ ap (λ (n : ℕ). take n (sent_now ++ so.gone)) exact ∙ take-append_seam sent_now so.gone)
