use Rattle.std.proofs.Common.{inl}
use Rattle.pac_plan.specs.Plan.{Outside}
use Rattle.pac_words.specs.Views.{asking_view, running_view, source_view}
use Rattle.url_runs.specs.Mapping as mapping_urls
use Rattle.url_runs.specs.Resolving as resolving_urls
use Rattle.pac_command.specs.Begun.{begun}
use Rattle.pac_command.specs.Commands.{map_plan, resolve_plan, upstream_of}
use Rattle.pac_command.proofs.Programs.{begins, by_upstream}
use Rattle.pac_command.proofs.top.done.Goals as goal

pub returns-in-Ok : goal.returns-in-Ok
returns-in-Ok g c = λ complete.
    let mid : Outside = record { files = g.F.Files.state c.read_work.new.files; link = g.N.Link.state c.args.link.now; clock = g.C.Clock.told c.given_by-given.new.clock; dice = g.D.Dice.told c.args.dice.now; runs = c.args.runs.now } in
    rw c.in-Resolve.is
    (by_upstream (λ upstream. begun (running_view c.in-Resolve.running) (λ given. resolve_plan complete c.in-Resolve.script.now (source_view c.in-Resolve.from) upstream given)) c.upstream_of.result _ _ _ _ c.upstream_of.ensures.same
    (begins (running_view c.in-Resolve.running) (λ given. resolve_plan complete c.in-Resolve.script.now (source_view c.in-Resolve.from) c.upstream_of.result given) c.given_by-given.result _ _ _ _ c.given_by-given.ensures
    (c.in-Ok.ensures mid (resolving_urls.resolve_plan complete c.upstream_of.result) _ _ (c.resolve_urls.ensures complete mid))))

pub returns-in-Err : goal.returns-in-Err
returns-in-Err g c = λ complete.
    let mid : Outside = record { files = g.F.Files.state c.read_work.new.files; link = g.N.Link.state c.args.link.now; clock = g.C.Clock.told c.given_by-given.new.clock; dice = g.D.Dice.told c.args.dice.now; runs = c.args.runs.now } in
    rw (c.in-Resolve.is, c.output.ensures)
    (begins (running_view c.in-Resolve.running) (λ given. resolve_plan complete c.in-Resolve.script.now (source_view c.in-Resolve.from) (upstream_of (asking_view c.in-Resolve.asking)) given) c.given_by-given.result _ _ _ _ c.given_by-given.ensures
    (c.in-Err.ensures mid (resolving_urls.resolve_plan complete (upstream_of (asking_view c.in-Resolve.asking)))))

pub returns-in-Ok-read_mapping : goal.returns-in-Ok-read_mapping
returns-in-Ok-read_mapping g c = λ complete.
    let mid : Outside = record { files = g.F.Files.state c.read_mapping.new.files; link = g.N.Link.state c.args.link.now; clock = g.C.Clock.told c.given_by-given-in-Map.new.clock; dice = g.D.Dice.told c.args.dice.now; runs = c.args.runs.now } in
    rw c.in-Map.is
    (begins (running_view c.in-Map.running) (λ given. map_plan c.in-Map.names.now c.in-Map.script.now (source_view c.in-Map.from) given) c.given_by-given-in-Map.result _ _ _ _ c.given_by-given-in-Map.ensures
    (c.in-Ok-read_mapping.ensures mid (λ found. mapping_urls.map_plan found.0 found.1) _ _ (c.map_urls.ensures mid)))

pub returns-in-Err-read_mapping : goal.returns-in-Err-read_mapping
returns-in-Err-read_mapping g c = λ complete.
    let mid : Outside = record { files = g.F.Files.state c.read_mapping.new.files; link = g.N.Link.state c.args.link.now; clock = g.C.Clock.told c.given_by-given-in-Map.new.clock; dice = g.D.Dice.told c.args.dice.now; runs = c.args.runs.now } in
    rw (c.in-Map.is, c.output-in-Err-read_mapping.ensures)
    (begins (running_view c.in-Map.running) (λ given. map_plan c.in-Map.names.now c.in-Map.script.now (source_view c.in-Map.from) given) c.given_by-given-in-Map.result _ _ _ _ c.given_by-given-in-Map.ensures
    (c.in-Err-read_mapping.ensures mid (λ found. mapping_urls.map_plan found.0 found.1)))

pub returns-in-Check : goal.returns-in-Check
returns-in-Check g c = λ complete.
    let old : Outside = record { files = g.F.Files.state c.args.files.now; link = g.N.Link.state c.args.link.now; clock = g.C.Clock.told c.args.clock.now; dice = g.D.Dice.told c.args.dice.now; runs = c.args.runs.now } in
    rw c.in-Check.is (inl (c.check.ensures old))

pub returns-in-Ask : goal.returns-in-Ask
returns-in-Ask g c = λ complete.
    let old : Outside = record { files = g.F.Files.state c.args.files.now; link = g.N.Link.state c.args.link.now; clock = g.C.Clock.told c.args.clock.now; dice = g.D.Dice.told c.args.dice.now; runs = c.args.runs.now } in
    rw (c.in-Ask.is, ← c.upstream_of-in-Ask.ensures.same) (inl (c.ask.ensures old))

pub returns-in-Generate : goal.returns-in-Generate
returns-in-Generate g c = λ complete.
    let old : Outside = record { files = g.F.Files.state c.args.files.now; link = g.N.Link.state c.args.link.now; clock = g.C.Clock.told c.args.clock.now; dice = g.D.Dice.told c.args.dice.now; runs = c.args.runs.now } in
    rw c.in-Generate.is (inl (c.generate.ensures old))
