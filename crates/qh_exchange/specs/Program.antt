-- What a run of the program reads, does and writes, by its status (own).
use Rattle.std.specs.Prelude.{◌≡◌, ◌≢◌, ◌⊎◌, ℕ, ◌<◌, ◌≤◌, List, [], ◌++◌, length, flat_map, Option, Some, Result, Ok, Err, IfOk, IsOk}
use Rattle.qh_spec.specs.Fault.{Rose, CountsFaults}
use Rattle.qh_spec.specs.Headline.{ServedOnce, AnsweredOnce}
use Rattle.qh_spec.specs.Link.{moments_of}
use Rattle.qh_spec.specs.Lists.{In}
use Rattle.qh_spec.specs.Message.{PlainMessage}
use Rattle.qh_spec.specs.Record.{PlainEntry}
use Rattle.qh_spec.specs.Report.{entry_block, report_of}
use Rattle.qh_spec.specs.Schedule.{IsUnforged}
use Rattle.qh_spec.specs.Service.{echo}
use Rattle.qh_spec.specs.Script.{Script, IsScript, IsRefusedAt, rounds_of}
use Rattle.qh_spec.specs.TokenFilter.{TokenLimits}
use Rattle.qh_spec.specs.TokenLog.{Token}
use Rattle.qh_spec.specs.TokenScript.{IsTokenScript, IsTokenRefusedAt, token_report}
use Rattle.qh_spec.specs.Validity.{IsFaultIndex, IsValidList}
use Rattle.qh_spec.specs.Words.{Command, Exchange, Tokens, IsCommand, AreUnknown}
use Rattle.qh_link.specs.ScriptLink.{PlainLink}
use Rattle.qh_plain.specs.Undecided.{IsUndecidedList}
use Rattle.qh_script.specs.Report.{report_by}
use Rattle.qh_pair.specs.declared.error.ExchangeError.{ExchangeError}
use Rattle.qh_pair.specs.declared.error.ExchangeError.TheVariants.{Memory}
use Rattle.qh_exchange.specs.Ending.{error_line, error_status, read_fault_line, refused_line, unbuilt_line, unlisted_line, usage_line}
use Rattle.qh_pair.specs.Errors.{IfInvalid, IfLink, IfOutOfRounds, IfProtocol, IfTimedOut}
use Rattle.qh_exchange.specs.Exchange.{IsInvalidAnswer}
use Rattle.qh_pair.specs.Pair.{KeepWithin}
use Rattle.qh_exchange.specs.Reading.{HasRead, IsRead, IsInput, IsAppended, IsWritten}
use Rattle.qh_pair.specs.Hellos.{AreGreetedAsSet, AreGreetedFirst, AreSaidAsSet, HaveIdsOfLength, LeaveIdleTime}
use Rattle.qh_pair.specs.Settings.{conn_config, whole_idle}
use Rattle.qh_pair.specs.Sound.{EndsFairly}
use Rattle.qh_pair.specs.Turn.{EndsInFault, HasWaitedFor, RanOut, WasIdle, WasLost, has_link_failed}
use Rattle.qh_exchange.specs.Unbuilt.{IsUnbuiltAt}

-- ---- what is done

-- each response that was recorded is the echo of its request, up to a limit
abbrev pub AreEchoes : ℕ → List PlainEntry → Type 0
AreEchoes limit entries = (e : PlainEntry) → In e entries → e.response ≡ echo limit e.request

-- What an exchange of a script's requests left behind, over a new link with the script's step and schedule, and with a
-- service that echoes and had served nothing.
pub record HasRun (s : Script) (link : PlainLink) (served : List PlainEntry) (result : Result (List PlainMessage) ExchangeError) : Type 0 where
  pub step_is : link.step ≡ s.step
  pub schedule_is : link.schedule ≡ s.schedule
  -- what is promised of it, where the schedule forges nothing
  pub served_once : IsUnforged s.schedule → ServedOnce s.config.local_id_len link.events s.requests [] served
  pub answered_once : IsUnforged s.schedule → IfOk result (λ answers. AnsweredOnce s.config.local_id_len link.events s.requests [] served answers)
  pub echoes : AreEchoes s.config.max_response_body served
  -- Both ends were greeted before either sent a byte of a stream, and each hello that came whole says what the settings do.
  pub greeted_first : IsUnforged s.schedule → AreGreetedFirst s.config.local_id_len link.events
  pub as_set : IsUnforged s.schedule → AreGreetedAsSet s.config.local_id_len (conn_config s.config) link.events
  -- So does each that was sent, whatever the schedule does.
  pub said_as_set : AreSaidAsSet s.config.local_id_len (conn_config s.config) link.events
  -- If no whole hello came with an id of another length, what an end sent in STREAM and RESET_STREAM frames kept within what was announced to it
  -- before.
  pub kept_within : HaveIdsOfLength s.config.local_id_len link.events → KeepWithin s.config.local_id_len link.events
  -- an answer to each request; a script without requests is answered, with nothing sent
  pub count : IfOk result (λ answers. length answers ≡ length s.requests)
  pub empty : s.requests ≡ [] → IsOk result × (link.events ≡ []) × (served ≡ [])
  -- why it failed
  pub cause : CountsFaults 0 link.faults (has_link_failed result)
  pub fault : IfLink result (EndsInFault link.events)
  pub invalid : IfInvalid result (λ index. IsFaultIndex s.config.max_requests s.config.max_field_section_size s.config.max_request_body s.requests index × (link.events ≡ []) × (served ≡ []))
  pub not_valid : (IsValidList s.config.max_requests s.config.max_field_section_size s.config.max_request_body s.requests → ⊥) → IsInvalidAnswer result (IsUndecidedList s.config.max_requests s.config.max_field_section_size s.config.max_request_body s.requests)
      × (link.events ≡ []) × (served ≡ [])
  pub timed_out : LeaveIdleTime s.config.local_id_len (conn_config s.config) link.events → IfTimedOut result (WasIdle (whole_idle (conn_config s.config).idle) [] (moments_of link.events))
  pub waited : IfTimedOut result (HasWaitedFor (conn_config s.config).idle [] (moments_of link.events))
  pub fair : IsUnforged s.schedule → EndsFairly s.config.local_id_len (conn_config s.config).idle link.events result
  pub lost : IfProtocol result (WasLost s.config.local_id_len (conn_config s.config) s.requests (Some []) (Some link.events) [] served)
  pub out_of_rounds : IfOutOfRounds result (RanOut s.config.local_id_len (conn_config s.config) (rounds_of s) s.requests (Some []) (Some link.events) [] (moments_of link.events) [] served)

-- the bench is as it was when the run began
pub record IsAsAtEntry (link_before link : PlainLink) (served : List PlainEntry) : Type 0 where
  pub link_is : link ≡ link_before
  pub served_none : served ≡ []

-- how a run ends that had a script: its status and its text
pub data ScriptEnds (s : Script) (link : PlainLink) (served : List PlainEntry) : (status : ℕ) → (text : List ℕ) → Type 0 where
  answered : (answers : List PlainMessage) → HasRun s link served (Ok answers)
      → (IsUnforged s.schedule → report_by served answers ≡ report_of s.config.max_response_body s.requests) → ScriptEnds s link served 0 (report_by served answers)
  failed : (e : ExchangeError) → HasRun s link served (Err e) → ScriptEnds s link served (error_status e) (flat_map entry_block served ++ error_line e)
  unlisted : (e : ExchangeError) → HasRun s link served (Err e) → ScriptEnds s link served (error_status e) (unlisted_line ++ error_line e)
  -- each request has its answer, and there was no memory for the report
  unreported : (answers : List PlainMessage) → HasRun s link served (Ok answers) → ScriptEnds s link served 9 (flat_map entry_block served ++ error_line Memory)
  neither : (answers : List PlainMessage) → HasRun s link served (Ok answers) → ScriptEnds s link served 9 (unlisted_line ++ error_line Memory)

-- How a run ends that read a text: a line of it is refused, or isn't built yet, whichever comes first, or it is a script.
pub data TextEnds (text : List ℕ) (link_before link : PlainLink) (served : List PlainEntry) : (status : ℕ) → (written : List ℕ) → Type 0 where
  refused : (n : ℕ) → IsRefusedAt text n → ((m : ℕ) → IsUnbuiltAt text m → n < m) → IsAsAtEntry link_before link served
      → TextEnds text link_before link served 3 (refused_line n)
  unbuilt : (n : ℕ) → IsUnbuiltAt text n → ((m : ℕ) → IsRefusedAt text m → n ≤ m) → IsAsAtEntry link_before link served
      → TextEnds text link_before link served 12 unbuilt_line
  ran : (s : Script) (status : ℕ) (written : List ℕ) → IsScript text s → ((m : ℕ) → IsUnbuiltAt text m → ⊥) → ScriptEnds s link served status written
      → TextEnds text link_before link served status written
  -- there was no memory for the script
  wanting : (s : Script) → IsScript text s → ((m : ℕ) → IsUnbuiltAt text m → ⊥) → IsAsAtEntry link_before link served
      → TextEnds text link_before link served 9 (error_line Memory)

-- How a run ends that read commands on a token log: a line of them is refused, or each token was looked at.
pub data TokensEnd (text : List ℕ) : (status : ℕ) → (written : List ℕ) → Type 0 where
  refused : (n : ℕ) → IsTokenRefusedAt text n → TokensEnd text 3 (refused_line n)
  looked : (limits : TokenLimits) (tokens : List Token) → IsTokenScript text limits tokens → TokensEnd text 0 (token_report limits tokens)
  wanting : (limits : TokenLimits) (tokens : List Token) → IsTokenScript text limits tokens → TokensEnd text 9 (error_line Memory)

-- the words with which the program reads its input
abbrev pub IsReading : List (List ℕ) → Type 0
IsReading words = IsCommand words Exchange ⊎ IsCommand words Tokens

-- How a run ends: its status and what it has to write, by its words, by what it reads, and by what it leaves on the bench.
pub data Ends (words : List (List ℕ)) (left_before left_after : Option (List ℕ)) (faults_before faults_after : ℕ) (link_before link : PlainLink) (served : List PlainEntry)
    : (status : ℕ) → (written : List ℕ) → Type 0 where
  usage : AreUnknown words → left_after ≡ left_before → faults_after ≡ faults_before → IsAsAtEntry link_before link served → Ends words left_before left_after faults_before faults_after link_before link served 2 usage_line
  unbuilt_words : (c : Command) → IsCommand words c → c ≢ Exchange → c ≢ Tokens → left_after ≡ left_before → faults_after ≡ faults_before → IsAsAtEntry link_before link served
      → Ends words left_before left_after faults_before faults_after link_before link served 12 unbuilt_line
  read_fault : IsReading words → Rose faults_before faults_after → IsAsAtEntry link_before link served
      → Ends words left_before left_after faults_before faults_after link_before link served 10 read_fault_line
  -- bytes were read that there was no memory for
  unread : (front : List ℕ) → IsReading words → 0 < length front → HasRead left_before left_after front → faults_after ≡ faults_before → IsAsAtEntry link_before link served
      → Ends words left_before left_after faults_before faults_after link_before link served 9 (error_line Memory)
  read : (text : List ℕ) (status : ℕ) (written : List ℕ) → IsCommand words Exchange → IsInput left_before left_after text → faults_after ≡ faults_before
      → TextEnds text link_before link served status written → Ends words left_before left_after faults_before faults_after link_before link served status written
  tokens : (text : List ℕ) (status : ℕ) (written : List ℕ) → IsCommand words Tokens → IsInput left_before left_after text → faults_after ≡ faults_before
      → TokensEnd text status written → IsAsAtEntry link_before link served → Ends words left_before left_after faults_before faults_after link_before link served status written

-- How a run ends: what it read, did and wrote, and its status.
pub record HasEnded (words : List (List ℕ)) (left_before left_after : Option (List ℕ)) (read_before read_after : ℕ) (link_before link : PlainLink) (served : List PlainEntry)
    (written_before written_after : Option (List ℕ)) (failed_before failed_after result : ℕ) : Type 0 where
  pub status : ℕ
  pub text : List ℕ
  pub ends : Ends words left_before left_after read_before read_after link_before link served status text
  pub writes : IsWritten status text written_before written_after failed_before failed_after result

-- ---- status 0

-- The words are `tokens`, the source was read to its end, its text has commands on a token log, and what was written is what
-- the log answers, and nothing else.
pub record AreLookedAt (words : List (List ℕ)) (left_before left_after written_before written_after : Option (List ℕ)) : Type 0 where
  pub words_are : IsCommand words Tokens
  pub text : List ℕ
  pub read : IsRead left_before left_after text
  pub limits : TokenLimits
  pub tokens : List Token
  pub commands : IsTokenScript text limits tokens
  pub written : IsAppended written_before written_after (token_report limits tokens)

-- The words are `exchange`, the source was read to its end, its text is a script, its requests were exchanged, and what was
-- written is their report and nothing else, where the schedule forges nothing.
pub record IsAnswered (words : List (List ℕ)) (left_before left_after written_before written_after : Option (List ℕ)) (link : PlainLink) (served : List PlainEntry) : Type 0 where
  pub words_are : IsCommand words Exchange
  pub text : List ℕ
  pub read : IsRead left_before left_after text
  pub script : Script
  pub is_script : IsScript text script
  pub answers : List PlainMessage
  pub run : HasRun script link served (Ok answers)
  pub written : IsUnforged script.schedule → IsAppended written_before written_after (report_of script.config.max_response_body script.requests)
