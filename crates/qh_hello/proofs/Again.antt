-- What a hello that is taken says may be said again.
use Rattle.std.proofs.Common.{◌≡◌, ℕ, ◌<◌, ◌≤◌, ◌^◌, List, length, Option, Some, None, sym, ap, ◌∙◌, arith, subst}
use Rattle.std.specs.Prelude.{MatchOption}
use Rattle.qh_hello.specs.Greetings.{SaysGreeting}
use Rattle.qh_hello.specs.Refusals.{AreShort}
use Rattle.qh_spec.specs.Hello.{AreSayable, Greeting, Hello, IfThere, IsSayable, SaysDatagramSize, SaysLimits, FirstLimits, value_of}
use Rattle.qh_spec.specs.HelloFaults.{IdsUsed, IsInRange, LongName, ServerOnly, OtherId, TokenLength, OutOfRange, IsAcceptable}
use Rattle.qh_spec.specs.ParameterIds as parameter_ids
use Rattle.qh_spec.specs.Varint.{IsVarint, one, two, four, eight}

varint_below : (bytes : List ℕ) (n : ℕ) → IsVarint bytes n → n < 2 ^ 62
varint_below bytes n (one l e) = omega (arith, l)
varint_below bytes n (two l e) = omega (arith, l)
varint_below bytes n (four l e) = omega (arith, l)
varint_below bytes n (eight l e) = l

below : (o : Option (List ℕ)) (default n : ℕ) → default < 2 ^ 62 → MatchOption o (n ≡ default) (λ value. IsVarint value n) → n < 2 ^ 62
below None default n low s = omega (arith, low, s)
below (Some value) default n low s = varint_below value n s

size_below : (h : Hello) (size : Option ℕ) → SaysDatagramSize h size → IfThere (λ (n : ℕ). n < 2 ^ 62) size
size_below h None s = tt
size_below h (Some n) s = varint_below s.0 n s.2

limits_sayable : (h : Hello) (l : FirstLimits) → SaysLimits h l → IsInRange h → AreSayable l
limits_sayable h l s r = record {
  max_data = below (value_of parameter_ids.initial_max_data h.parameters) 0 l.max_data (omega arith) s.max_data;
  bidi_local = below (value_of parameter_ids.initial_max_stream_data_bidi_local h.parameters) 0 l.bidi_local (omega arith) s.bidi_local;
  bidi_remote = below (value_of parameter_ids.initial_max_stream_data_bidi_remote h.parameters) 0 l.bidi_remote (omega arith) s.bidi_remote;
  uni = below (value_of parameter_ids.initial_max_stream_data_uni h.parameters) 0 l.uni (omega arith) s.uni;
  max_bidi = r.max_bidi l.max_bidi s.max_bidi;
  max_uni = r.max_uni l.max_uni s.max_uni;
}

abbrev IsShort : List ℕ → Type 0
IsShort id = length id ≤ 20

pub sayable_again : (used : IdsUsed) (bytes : List ℕ) (h : Hello) (g : Greeting) → IsAcceptable g.sender used bytes h → SaysGreeting h g → AreShort used → IsSayable g
sayable_again used bytes h g a s short =
    let ids = a.keeps OtherId in
    let range = a.keeps OutOfRange in
    let few = a.keeps LongName in
    let size = ap length s.server_name in
    record {
      name = omega (arith, few, size);
      client = λ e. let none = a.keeps ServerOnly (s.sender ∙ e) in (sym s.original_id ∙ none.0, sym s.reset_token ∙ none.1.0, sym s.retry_id ∙ none.1.1.0);
      original_id = subst (IfThere IsShort) (sym ids.original ∙ s.original_id) short.original;
      idle = below (value_of parameter_ids.max_idle_timeout h.parameters) 0 g.idle (omega arith) s.idle;
      reset_token = subst (IfThere (λ (token : List ℕ). length token ≡ 16)) s.reset_token (a.keeps TokenLength);
      limits = limits_sayable h g.limits s.limits range;
      some_ids = range.id_limit g.id_limit s.id_limit;
      id_limit = below (value_of parameter_ids.active_connection_id_limit h.parameters) 2 g.id_limit (omega arith) s.id_limit;
      source_id = subst (IfThere IsShort) (sym ids.source ∙ s.source_id) short.source;
      retry_id = subst (IfThere IsShort) (sym ids.retry ∙ s.retry_id) short.retry;
      datagram = size_below h g.datagram s.datagram;
    }
