-- How runs end.
use Rattle.std.proofs.Common.{◌≡◌, ◌≢◌, ◌⊎◌, inl, inr, ℕ, suc, ◌+◌, ◌≤◌, List, [], ◌∷◌, ◌++◌, length, Option, refl, sym, ap, ◌∙◌, subst, arith, append-nil}
use Rattle.std.specs.Prelude.{Ok, Some, None, IfSome, IfNone}
use Rattle.qh_link.specs.ScriptLink.{PlainLink}
use Rattle.qh_spec.specs.Message.{PlainMessage}
use Rattle.qh_spec.specs.Record.{PlainEntry}
use Rattle.qh_spec.specs.Report.{report_of}
use Rattle.qh_spec.specs.Schedule.{IsUnforged}
use Rattle.qh_spec.specs.Script.{Script, IsScript, max_script}
use Rattle.qh_spec.specs.TokenFilter.{TokenLimits}
use Rattle.qh_spec.specs.TokenLog.{Token}
use Rattle.qh_spec.specs.TokenScript.{IsTokenScript, token_report}
use Rattle.qh_spec.specs.Words.{Command, IsCommand, Exchange, Make, Workers, Tokens}
use Rattle.qh_exchange.specs.declared.ending.Ending.{Ending}
use Rattle.qh_exchange.specs.declared.ending.Outcome.{Outcome}
use Rattle.qh_exchange.specs.declared.ending.Outcome.TheVariants.{Done, Failed}
use Rattle.qh_pair.specs.declared.error.ExchangeError.{ExchangeError}
use Rattle.qh_pair.specs.declared.error.ExchangeError.TheVariants.{Invalid, Link, TimedOut, OutOfRounds, Protocol, Memory}
use Rattle.qh_exchange.specs.Endings.{EndsLooked, all_looked, wanting_tokens}
use Rattle.qh_exchange.specs.Ending.{error_status, line_of, status_of, text_of}
use Rattle.qh_exchange.specs.Program.{HasRun, ScriptEnds, answered, failed, unlisted, unreported, neither, TextEnds, refused, unbuilt, ran, wanting, TokensEnd, looked, Ends, usage, unbuilt_words, read_fault, unread, read, tokens, AreLookedAt, IsAnswered}
use Rattle.qh_exchange.specs.Reading.{IsRead, IsInput, all, front, IsAppended, IsWritten, whole, cut}
use Rattle.qh_exchange.specs.Unbuilt.{IsUnbuiltLine, IsUnbuiltAt}
use Rattle.qh_exchange.proofs.Unbuilt.{AreBuilt}

-- an ending with this text and this outcome
pub ends_by : (P : ℕ → List ℕ → Type 0) (e : Ending) (text : List ℕ) (o : Outcome) → e.text.items ≡ text → e.last ≡ o → P (status_of o) (text ++ line_of o)
    → P (status_of e.last) (text_of e)
ends_by P e text o t l p = subst (λ (z : List ℕ). P (status_of e.last) (z ++ line_of e.last)) (sym t) (subst (λ (z : Outcome). P (status_of z) (text ++ line_of z)) (sym l) p)

-- an ending that is whole without another line
pub ends_done : (P : ℕ → List ℕ → Type 0) (e : Ending) (text : List ℕ) → e.text.items ≡ text → e.last ≡ Done → P 0 text → P (status_of e.last) (text_of e)
ends_done P e text t l p = ends_by P e text Done t l (subst (P 0) (sym (append-nil text)) p)

-- how commands on a token log end
pub looked_ends : (text : List ℕ) (limits : TokenLimits) (ts : List Token) (e : Ending) → IsTokenScript text limits ts → EndsLooked limits ts e → TokensEnd text (status_of e.last) (text_of e)
looked_ends text limits ts e is (all_looked t l) = ends_done (TokensEnd text) e (token_report limits ts) t l (looked limits ts is)
looked_ends text limits ts e is (wanting_tokens t l) = ends_by (TokensEnd text) e [] (Failed Memory) t l (wanting limits ts is)

-- what is known of an option, where it is there or not
pub at_some : {X : Type 0} (P : X → Type 0) (o : Option X) (x : X) → o ≡ Some x → IfSome o P → P x
at_some P o x e h = subst (λ (z : _). IfSome z P) e h

pub at_none : {X : Type 0} (P : Type 0) (o : Option X) → o ≡ None → IfNone o P → P
at_none P o e h = subst (λ (z : _). IfNone z P) e h

-- words that ask for what isn't built
abbrev pub IsOther : Command → Type 0
IsOther c = (c ≢ Exchange) × (c ≢ Tokens)

pub other_make : {count seed : ℕ} → IsOther (Make count seed)
other_make = (λ e. cc, λ e. cc)

pub other_workers : {count : ℕ} → IsOther (Workers count)
other_workers = (λ e. cc, λ e. cc)

-- ---- the first line that isn't built

first_same : (f g : List (List ℕ)) (k l : List ℕ) (r s : List (List ℕ)) → f ++ k ∷ r ≡ g ++ l ∷ s → AreBuilt f → AreBuilt g → IsUnbuiltLine k → IsUnbuiltLine l
    → length f ≡ length g
first_same [] [] k l r s e a b p q = refl
first_same [] (x ∷ g) k l r s e a b p q = let same : k ≡ x = cc in absurd (b.0 (subst IsUnbuiltLine same p))
first_same (x ∷ f) [] k l r s e a b p q = let same : x ≡ l = cc in absurd (a.0 (subst IsUnbuiltLine (sym same) q))
first_same (x ∷ f) (y ∷ g) k l r s e a b p q =
    let rest : f ++ k ∷ r ≡ g ++ l ∷ s = cc in
    ap suc (first_same f g k l r s rest a.1 b.1 p q)

pub one_unbuilt : (text : List ℕ) (m n : ℕ) → IsUnbuiltAt text m → IsUnbuiltAt text n → m ≡ n
one_unbuilt text m n u v =
    u.count ∙ ap (λ (k : ℕ). k + 1) (first_same u.front v.front u.line v.line u.rest v.rest (sym u.is ∙ v.is) u.built v.built u.unbuilt v.unbuilt) ∙ sym v.count

-- ---- status 0

-- a source whose text is a script was read to its end
pub read_whole : (before after : Option (List ℕ)) (text : List ℕ) → length text ≤ max_script → IsInput before after text → IsRead before after text
read_whole before after text short (all r) = r
read_whole before after text short (front r l) = absurd (omega arith)

pub record IsDone (s : Script) (link : PlainLink) (served : List PlainEntry) (text : List ℕ) : Type 0 where
  pub answers : List PlainMessage
  pub run : HasRun s link served (Ok answers)
  pub told : IsUnforged s.schedule → text ≡ report_of s.config.max_response_body s.requests

no_status : (e : ExchangeError) → error_status e ≡ 0 → ⊥
no_status (Invalid index) z = absurd (omega arith)
no_status TimedOut z = absurd (omega arith)
no_status OutOfRounds z = absurd (omega arith)
no_status Link z = absurd (omega arith)
no_status (Protocol x) z = absurd (omega arith)
no_status Memory z = absurd (omega arith)

script_done : (s : Script) (l : PlainLink) (served : List PlainEntry) (status : ℕ) (text : List ℕ) → status ≡ 0 → ScriptEnds s l served status text → IsDone s l served text
script_done s l served status text z (answered answers run told) = record { answers = answers; run = run; told = told }
script_done s l served status text z (failed e run) = absurd (no_status e z)
script_done s l served status text z (unlisted e run) = absurd (no_status e z)
script_done s l served status text z (unreported answers run) = absurd (omega arith)
script_done s l served status text z (neither answers run) = absurd (omega arith)

pub record IsTextDone (text : List ℕ) (l : PlainLink) (served : List PlainEntry) (written : List ℕ) : Type 0 where
  pub script : Script
  pub is_script : IsScript text script
  pub done : IsDone script l served written

text_done : (text : List ℕ) (o l : PlainLink) (served : List PlainEntry) (status : ℕ) (written : List ℕ) → status ≡ 0 → TextEnds text o l served status written
    → IsTextDone text l served written
text_done text o l served status written z (refused n r u same) = absurd (omega arith)
text_done text o l served status written z (unbuilt n u r same) = absurd (omega arith)
text_done text o l served status written z (wanting s is_script none same) = absurd (omega arith)
text_done text o l served status written z (ran s st w is_script none ends) =
    record { script = s; is_script = is_script; done = script_done s l served st w z ends }

pub record IsAllDone (words : List (List ℕ)) (left_before left_after : Option (List ℕ)) (l : PlainLink) (served : List PlainEntry) (written : List ℕ) : Type 0 where
  pub words_are : IsCommand words Exchange
  pub text : List ℕ
  pub read : IsRead left_before left_after text
  pub done : IsTextDone text l served written

pub record IsTokensDone (text written : List ℕ) : Type 0 where
  pub limits : TokenLimits
  pub tokens : List Token
  pub commands : IsTokenScript text limits tokens
  pub told : written ≡ token_report limits tokens

tokens_done : (text : List ℕ) (status : ℕ) (written : List ℕ) → status ≡ 0 → TokensEnd text status written → IsTokensDone text written
tokens_done text status written z (refused n r) = absurd (omega arith)
tokens_done text status written z (wanting limits ts commands) = absurd (omega arith)
tokens_done text status written z (looked limits ts commands) = record { limits = limits; tokens = ts; commands = commands; told = refl }

pub record AreAllLookedAt (words : List (List ℕ)) (left_before left_after : Option (List ℕ)) (written : List ℕ) : Type 0 where
  pub words_are : IsCommand words Tokens
  pub text : List ℕ
  pub read : IsRead left_before left_after text
  pub done : IsTokensDone text written

all_done : (words : List (List ℕ)) (left_before left_after : Option (List ℕ)) (f g : ℕ) (o l : PlainLink) (served : List PlainEntry) (status : ℕ) (written : List ℕ) → status ≡ 0
    → Ends words left_before left_after f g o l served status written → IsAllDone words left_before left_after l served written ⊎ AreAllLookedAt words left_before left_after written
all_done words left_before left_after f g o l served status written z (usage u left still same) = absurd (omega arith)
all_done words left_before left_after f g o l served status written z (unbuilt_words c is n m left still same) = absurd (omega arith)
all_done words left_before left_after f g o l served status written z (read_fault w r same) = absurd (omega arith)
all_done words left_before left_after f g o l served status written z (unread bytes w some r still same) = absurd (omega arith)
all_done words left_before left_after f g o l served status written z (read text st w is input still ends) =
    let done = text_done text o l served st w z ends in
    inl (record { words_are = is; text = text; read = read_whole left_before left_after text done.is_script.short input; done = done })
all_done words left_before left_after f g o l served status written z (tokens text st w is input still ends same) =
    let done = tokens_done text st w z ends in
    inr (record { words_are = is; text = text; read = read_whole left_before left_after text done.commands.short input; done = done })

written_whole : (status : ℕ) (text : List ℕ) (before after : Option (List ℕ)) (f g result : ℕ) → result ≡ 0 → IsWritten status text before after f g result
    → (status ≡ 0) × IsAppended before after text
written_whole status text before after f g result z (whole w) = (z, w)
written_whole status text before after f g result z (cut a b e w r) = absurd (omega arith)

pub answered_whole : (words : List (List ℕ)) (left_before left_after : Option (List ℕ)) (f g : ℕ) (o l : PlainLink) (served : List PlainEntry)
    (written_before written_after : Option (List ℕ)) (h k result : ℕ) (status : ℕ) (text : List ℕ) → result ≡ 0
    → Ends words left_before left_after f g o l served status text → IsWritten status text written_before written_after h k result
    → IsAnswered words left_before left_after written_before written_after l served ⊎ AreLookedAt words left_before left_after written_before written_after
answered_whole words left_before left_after f g o l served written_before written_after h k result status text z ends writes =
    let w = written_whole status text written_before written_after h k result z writes in
    elim (all_done words left_before left_after f g o l served status text w.0 ends) [
      | inl d ↦
          inl
          (record {
            words_are = d.words_are;
            text = d.text;
            read = d.read;
            script = d.done.script;
            is_script = d.done.is_script;
            answers = d.done.done.answers;
            run = d.done.done.run;
            written = λ u. subst (IsAppended written_before written_after) (d.done.done.told u) w.1;
          })
      | inr d ↦
          inr
          (record {
            words_are = d.words_are;
            text = d.text;
            read = d.read;
            limits = d.done.limits;
            tokens = d.done.tokens;
            commands = d.done.commands;
            written = subst (IsAppended written_before written_after) d.done.told w.1;
          })
    ]
