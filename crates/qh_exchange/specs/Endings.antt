-- How a run ends, by how the exchange of a script ended, and by what a token log says.
use Rattle.std.specs.Prelude.{◌≡◌, ℕ, List, [], flat_map}
use Rattle.qh_link.specs.ScriptLink.{PlainLink}
use Rattle.qh_spec.specs.Config.{PlainConfig}
use Rattle.qh_spec.specs.Message.{PlainMessage}
use Rattle.qh_spec.specs.Record.{PlainEntry}
use Rattle.qh_spec.specs.Report.{entry_block}
use Rattle.qh_spec.specs.Script.{Script, rounds_of}
use Rattle.qh_spec.specs.TokenFilter.{TokenLimits}
use Rattle.qh_spec.specs.TokenLog.{Token}
use Rattle.qh_spec.specs.TokenScript.{token_report}
use Rattle.qh_script.specs.Report.{HaveMaps, report_by}
use Rattle.qh_exchange.specs.declared.ending.Ending.{Ending}
use Rattle.qh_exchange.specs.declared.ending.Outcome.TheVariants.{Done, Failed, Unlisted}
use Rattle.qh_pair.specs.declared.error.ExchangeError.{ExchangeError}
use Rattle.qh_pair.specs.declared.error.ExchangeError.TheVariants.{Memory}

-- the error, behind the entries of the record or the line that says that they aren't listed
pub data EndsFailed (served : List PlainEntry) (e : ExchangeError) (ending : Ending) : Type 0 where
  listed : ending.text.items ≡ flat_map entry_block served → ending.last ≡ Failed e → EndsFailed served e ending
  left_out : ending.text.items ≡ [] → ending.last ≡ Unlisted e → EndsFailed served e ending

-- the report, whose messages have maps, or want of memory for it
pub data EndsAnswered (served : List PlainEntry) (answers : List PlainMessage) (ending : Ending) : Type 0 where
  reported : ending.text.items ≡ report_by served answers → ending.last ≡ Done → HaveMaps served answers → EndsAnswered served answers ending
  wanting : EndsFailed served Memory ending → EndsAnswered served answers ending

-- the line of each token, or want of memory for them
pub data EndsLooked (limits : TokenLimits) (tokens : List Token) (ending : Ending) : Type 0 where
  all_looked : ending.text.items ≡ token_report limits tokens → ending.last ≡ Done → EndsLooked limits tokens ending
  wanting_tokens : ending.text.items ≡ [] → ending.last ≡ Failed Memory → EndsLooked limits tokens ending

-- these are the settings, the requests, the rounds and the link of the script
pub record IsRunAs (s : Script) (config : PlainConfig) (requests : List PlainMessage) (rounds : ℕ) (link : PlainLink) : Type 0 where
  pub config_is : config ≡ s.config
  pub requests_are : requests ≡ s.requests
  pub rounds_are : rounds ≡ rounds_of s
  pub step_is : link.step ≡ s.step
  pub schedule_is : link.schedule ≡ s.schedule
