-- The words of the program as they were read.
use Rattle.qh_spec.specs.Words as words
use Rattle.qh_spec.specs.Words.{Command as PlainCommand}
use Rattle.qh_script.specs.declared.command.Command.{Command}
use Rattle.qh_script.specs.declared.command.Command.TheVariants.{Exchange, Make, Workers, Tokens}

abbrev pub plain_command : Command → PlainCommand
plain_command Exchange = words.Exchange
plain_command (Make count seed) = words.Make count seed
plain_command (Workers count) = words.Workers count
plain_command Tokens = words.Tokens
