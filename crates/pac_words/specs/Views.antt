-- The values of the code as the rules see them.
use Rattle.clap.specs.Matches.{found_of}
use Rattle.clap.specs.Walk.{first_of, rows_of}
use Rattle.clap.specs.declared.parser.matches.ArgMatches.{ArgMatches}
use Rattle.pac_words.specs.Commands as spec
use Rattle.pac_words.specs.declared.command.Asking.{Asking}
use Rattle.pac_words.specs.declared.command.Running.{Running}
use Rattle.pac_words.specs.declared.command.Source.{Source}
use Rattle.pac_words.specs.declared.command.Source.TheVariants as source
use Rattle.pac_words.specs.declared.command.Command.{Command}
use Rattle.pac_words.specs.declared.command.Command.TheVariants as command

abbrev pub asking_view : Asking → spec.Asking
asking_view a = record { servers = a.servers; wait = a.wait; tries = a.tries }

abbrev pub running_view : Running → spec.Running
running_view r = record { fuel = r.fuel; my_ip = r.my_ip; zone = r.zone; now = r.now }

abbrev pub source_view : Source → spec.Source
source_view (source.Url url) = spec.one_url url.now
source_view (source.Batch file) = spec.batch_file file.now

abbrev pub command_view : Command → spec.Asked
command_view (command.Resolve script from asking running) = spec.resolving script.now (source_view from) (asking_view asking) (running_view running)
command_view (command.Map names script from running) = spec.mapping names.now script.now (source_view from) (running_view running)
command_view (command.Check script) = spec.checking script.now
command_view (command.Ask name asking) = spec.asking name.now (asking_view asking)
command_view (command.Generate generating) = spec.generating generating.seed generating.sites

-- the value of each argument by the matches
abbrev pub given_in : ArgMatches → spec.Given
given_in m = λ name. first_of name (rows_of (found_of m))
