-- What is written of requests that were served in any order and echoed is the report of the requests.
use Rattle.std.proofs.Common.{◌≡◌, inl, inr, ℕ, suc, ◌+◌, ◌*◌, ◌==◌, true, false, List, [], ◌∷◌, ◌++◌, length, Option, Some, refl, sym, ap, ◌∙◌, subst, arith}
use Rattle.std.specs.Prelude.{All, IfSome, slice_get}
use Rattle.std.proofs.lemmas.Bool.{cases_eq, eq-eqb, ne_eqb}
use Rattle.std.proofs.lemmas.List.Elements.{All-get_or}
use Rattle.std.proofs.lemmas.Option.{get_or_from_slice_get, slice_get_within}
use Rattle.qh_script.specs.Report.{HaveMaps, HaveMapsFrom, entry_blocks, entry_on, exchange_blocks, report_by}
use Rattle.qh_spec.specs.declared.link.Event.{Event}
use Rattle.qh_spec.specs.Echoed.{HasMaps, IsEchoed, AreEchoed}
use Rattle.qh_spec.specs.Growth.{streams_of}
use Rattle.qh_spec.specs.Headline.{AnsweredOnce}
use Rattle.qh_spec.specs.Lists.{In, Distinct}
use Rattle.qh_spec.specs.Message.{PlainMessage}
use Rattle.qh_spec.specs.Record.{PlainEntry}
use Rattle.qh_spec.specs.Report.{entry_block, answer_block, blocks, ok_line, report_of}
use Rattle.qh_spec.specs.Same.{SameMessage}
use Rattle.qh_spec.proofs.Echoes.{echoes_told}
use Rattle.qh_exchange.specs.Program.{AreEchoes}

in_streams : (e : PlainEntry) (es : List PlainEntry) → In e es → In e.stream (streams_of es)
in_streams e [] i = absurd i
in_streams e (x ∷ es) (inl same) = inl (ap (λ (z : PlainEntry). z.stream) same)
in_streams e (x ∷ es) (inr i) = inr (in_streams e es i)

-- where no stream stands twice, an entry is the first of its stream
first_is : (es : List PlainEntry) (e : PlainEntry) (stream : ℕ) → In e es → Distinct (streams_of es) → e.stream ≡ stream → entry_on stream es ≡ Some e
first_is [] e stream i d at_stream = absurd i
first_is (x ∷ es) e stream (inl same) d at_stream =
    let here : x.stream ≡ stream = ap (λ (z : PlainEntry). z.stream) same ∙ at_stream in
    let t : x.stream == stream ≡ true = eq-eqb x.stream stream here in
    rw t (ap Some same)
first_is (x ∷ es) e stream (inr i) d at_stream =
    elim (cases_eq x.stream stream) [
      | inl here ↦ absurd (d.0 (subst (λ (z : ℕ). In z (streams_of es)) (at_stream ∙ sym here) (in_streams e es i)))
      | inr apart ↦
          let t : x.stream == stream ≡ false = ne_eqb x.stream stream apart in
          rw t (first_is es e stream i d.1 at_stream)
    ]

-- the first entry of the i-th stream is that of the i-th request, which was echoed, and the answer is its response
pub record AtPlace (i limit : ℕ) (m : PlainMessage) (served : List PlainEntry) (a : PlainMessage) : Type 0 where
  pub entry : PlainEntry
  pub first : entry_on (4 * i) served ≡ Some entry
  pub echoed : IsEchoed i limit m entry a
  pub maps : HasMaps m

at_place : (k limit : ℕ) (events : List Event) (requests : List PlainMessage) (served : List PlainEntry) (answers : List PlainMessage)
    → AnsweredOnce k events requests [] served answers → AreEchoes limit served → All HasMaps requests → (i : ℕ) (m a : PlainMessage) → slice_get requests i ≡ Some m
    → slice_get answers i ≡ Some a → AtPlace i limit m served a
at_place k limit events requests served answers p echoes maps i m a asked_at answered_at =
    let recorded = p.each i a answered_at in
    let fresh : p.served.grew.fresh ≡ served = sym p.served.grew.longer in
    let among : In recorded.entry served = subst (λ (z : List PlainEntry). In recorded.entry z) fresh recorded.among in
    let once : Distinct (streams_of served) = subst (λ (z : List PlainEntry). Distinct (streams_of z)) fresh p.served.grew.once in
    let asked = p.served.grew.as_asked recorded.entry recorded.among in
    let on_stream : recorded.entry.stream ≡ 4 * i = recorded.stream_is in
    let as_asked : recorded.entry.stream ≡ 4 * asked.index = asked.stream_is in
    let index : asked.index ≡ i = omega arith in
    let there : Some asked.asked ≡ Some m = sym asked.asked_is ∙ ap (slice_get requests) index ∙ asked_at in
    let same : asked.asked ≡ m = cc in
    let has : HasMaps m =
    subst HasMaps (get_or_from_slice_get requests i m m asked_at) (All-get_or HasMaps requests i m (slice_get_within requests i m asked_at) maps) in
    record {
      entry = recorded.entry;
      first = first_is served recorded.entry (4 * i) among once on_stream;
      echoed = record {
        stream_is = on_stream;
        asked = subst (λ (z : PlainMessage). SameMessage recorded.entry.request z) same asked.same;
        response_is = echoes recorded.entry among;
        told = recorded.same;
      };
      maps = has;
    }

-- entries in the order of the requests from the i-th on, of which as much is written
pub record Placed (i limit : ℕ) (requests : List PlainMessage) (served : List PlainEntry) (answers : List PlainMessage) : Type 0 where
  pub entries : List PlainEntry
  pub echoed : AreEchoed i limit requests entries answers
  pub blocks_are : exchange_blocks i served answers ≡ blocks entries answers

abbrev pub ArePlaced : (i limit : ℕ) (requests : List PlainMessage) (served : List PlainEntry) (answers : List PlainMessage) → Type 0
ArePlaced i limit requests served answers = (k : ℕ) (m a : PlainMessage) → slice_get requests k ≡ Some m → slice_get answers k ≡ Some a → AtPlace (i + k) limit m served a

placed_more : (i limit : ℕ) (m : PlainMessage) (ms : List PlainMessage) (served : List PlainEntry) (a : PlainMessage) (answers : List PlainMessage)
    → AtPlace i limit m served a → HaveMapsFrom i served (a ∷ answers) → Placed (i + 1) limit ms served answers → Placed i limit (m ∷ ms) served (a ∷ answers)
placed_more i limit m ms served a answers at maps rest =
    let asked : HasMaps at.entry.request = subst (λ (z : Option PlainEntry). IfSome z (λ e. HasMaps e.request)) at.first maps.0 in
    let later : List ℕ = exchange_blocks (i + 1) served answers in
    record {
      entries = at.entry ∷ rest.entries;
      echoed = (at.echoed, at.maps, asked, maps.1, rest.echoed);
      blocks_are = ap (λ (z : Option PlainEntry). entry_blocks z ++ (answer_block (4 * i) a ++ later)) at.first
          ∙ ap (λ (z : ℕ). entry_block at.entry ++ (answer_block z a ++ later)) (sym at.echoed.stream_is)
          ∙ ap (λ (z : List ℕ). entry_block at.entry ++ (answer_block at.entry.stream a ++ z)) rest.blocks_are;
    }

placed : (i limit : ℕ) (requests : List PlainMessage) (served : List PlainEntry) (answers : List PlainMessage) → length answers ≡ length requests
    → ArePlaced i limit requests served answers → HaveMapsFrom i served answers → Placed i limit requests served answers
placed i limit [] served [] count at maps = record { entries = []; echoed = tt; blocks_are = refl }
placed i limit [] served (a ∷ answers) count at maps = absurd (omega arith)
placed i limit (m ∷ ms) served [] count at maps = absurd (omega arith)
placed i limit (m ∷ ms) served (a ∷ answers) count at maps =
    let here : AtPlace (i + 0) limit m served a = at 0 m a refl refl in
    let zero_more : i + 0 ≡ i = omega arith in
    let later : ArePlaced (i + 1) limit ms served answers =
    λ k n b e f.
    let there : AtPlace (i + suc k) limit n served b = at (suc k) n b e f in
    let over : i + suc k ≡ i + 1 + k = omega arith in
    subst (λ (z : ℕ). AtPlace z limit n served b) over there in
    placed_more i limit m ms served a answers (subst (λ (z : ℕ). AtPlace z limit m served a) zero_more here) maps
    (placed (i + 1) limit ms served answers (omega arith) later maps.2)

pub reported : (k limit : ℕ) (events : List Event) (requests : List PlainMessage) (served : List PlainEntry) (answers : List PlainMessage)
    → AnsweredOnce k events requests [] served answers → AreEchoes limit served → All HasMaps requests → HaveMaps served answers
    → report_by served answers ≡ report_of limit requests
reported k limit events requests served answers p echoes maps have =
    let at : ArePlaced 0 limit requests served answers =
    λ j m a e f.
    let none : j ≡ 0 + j = omega arith in
    subst (λ (z : ℕ). AtPlace z limit m served a) none (at_place k limit events requests served answers p echoes maps j m a e f) in
    let w = placed 0 limit requests served answers p.count at have in
    ap (λ (z : List ℕ). z ++ ok_line (length answers)) w.blocks_are ∙ echoes_told limit requests w.entries answers w.echoed
