-- What each command does.
use Rattle.std.specs.Prelude.{ℕ, List, Option, Some, None, codes}
use Rattle.pac_plan.specs.Plan.{Output, say, at_once, line}
use Rattle.pac_plan.specs.declared.status.Status.TheVariants as status
use Rattle.pac_words.specs.Commands.{Asked, Asking, Source, asking, checking, generating, mapping, resolving}
use Rattle.poll_loop.specs.declared.looping.Upstream.{Upstream}
use Rattle.pac_ask.specs.Ask.{ask_plan}
use Rattle.utf16_text.specs.Decode.{utf16_units}
use Rattle.pac_command.specs.Plans.{CommandPlan, Doing, over_link, in_memory}
use Rattle.url_runs.specs.Resolving as resolving_urls
use Rattle.url_runs.specs.Resolving.{Completion}
use Rattle.url_runs.specs.Mapping as mapping_urls
use Rattle.pac_command.specs.declared.given.Given.{Given}
use Rattle.pac_command.specs.Begun.{begun}
use Rattle.pac_command.specs.Work.{mapping_from, work_from}
use Rattle.pac_command.specs.Check.{check_plan}
use Rattle.pac_command.specs.Generate.{generate_plan}

abbrev pub usage : Output
usage = record { status = status.Usage; text = line (codes "usage: pac resolve|map|check|ask|generate ARGUMENTS") }

-- whom to ask, and how often
abbrev pub upstream_of : Asking → Upstream
upstream_of a = record { servers = a.servers; terms = record { wait = a.wait; tries = a.tries } }

-- reads a script and its URLs, runs it for all of them at once, over the link, and reports
abbrev pub resolve_plan : Completion → List ℕ → Source → Upstream → Given → CommandPlan
resolve_plan complete script source upstream given = work_from given script source (resolving_urls.resolve_plan complete upstream)

-- reads a script, a file of names and the script's URLs, runs it once for each of them, against these names, and reports
abbrev pub map_plan : List ℕ → List ℕ → Source → Given → CommandPlan
map_plan names script source given = mapping_from given names script source (λ found. mapping_urls.map_plan found.0 found.1)

-- What the words ask for; where they aren't read, the usage. What `resolve` reports is by runs against maps that agree with
-- the log.
abbrev pub doing_of : Completion → Option Asked → Doing
doing_of complete None = over_link (at_once (say usage))
doing_of complete (Some (resolving script source how running)) =
    over_link (begun running (λ given. resolve_plan complete script source (upstream_of how) given))
doing_of complete (Some (mapping names script source running)) = over_link (begun running (λ given. map_plan names script source given))
doing_of complete (Some (checking script)) = over_link (at_once (check_plan script))
doing_of complete (Some (asking name how)) = over_link (at_once (ask_plan (upstream_of how) (utf16_units name)))
doing_of complete (Some (generating seed sites)) = in_memory (at_once (generate_plan seed sites))
