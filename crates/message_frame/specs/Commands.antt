-- The commands, by the numbers of their messages.
use Rattle.std.specs.Prelude.{ℕ, ◌≡◌, false, ◌++◌, Result, MatchResult}
use Rattle.rules.specs.Maps.{among}
use Rattle.rules.specs.Messages.{create_number, delete_number, set_number, get_number, all_alarms_number, alarms_next_number}
use Rattle.rules.specs.Messages.{upload_number, upload_next_number, reset_number, with_result, without_result}
use Rattle.message_frame.specs.declared.commands.Command.{Command}
use Rattle.message_frame.specs.declared.commands.Command.TheVariants as command
use Rattle.message_frame.specs.declared.commands.NoCommand.{NoCommand}

abbrev pub command_number : Command → ℕ
command_number command.Create = create_number
command_number command.Delete = delete_number
command_number command.Set = set_number
command_number command.Get = get_number
command_number command.AllAlarms = all_alarms_number
command_number command.AlarmsNext = alarms_next_number
command_number command.Upload = upload_number
command_number command.UploadNext = upload_next_number
command_number command.Reset = reset_number

-- the answer is the command that has the number, or none where no command has it
abbrev pub Decodes : ℕ → Result Command NoCommand → Type 0
Decodes n r = MatchResult r (λ c. n ≡ command_number c) (λ e. among n (with_result ++ without_result) ≡ false)
