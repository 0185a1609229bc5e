use Rattle.std.specs.Prelude.{codes, map}
use Rattle.batch_text.specs.Batch.{entry_seen}
use Rattle.pac_plan.specs.Plan.{read}
use Rattle.pac_command.specs.Steps.{ok_as}
use Rattle.pac_command.specs.Urls.{batch_then}
use Rattle.pac_command.proofs.Stepping.{step_then}
use Rattle.pac_command.proofs.urls.read_urls.Goals as goal

pub returns-in-Url : goal.returns-in-Url
returns-in-Url g c = rw c.in-Url.is (c.one_url.ensures (g.F.Files.state c.args.files.now))

pub returns-in_ok-bytes-in-Batch : goal.returns-in_ok-bytes-in-Batch
returns-in_ok-bytes-in-Batch g c = rw c.in-Batch.is
    (step_then (read (codes "batch") c.in-Batch.file.now) (λ bytes. batch_then c.args.given.now bytes) _ _ _ c.in_ok-bytes-in-Batch.bytes.items (ok_as (map entry_seen) c.batch_in.result)
    c.in_ok-bytes-in-Batch.ensures.step (rw c.deref.ensures.value at (c.batch_in.ensures (g.F.Files.state c.read_file.new.files))))
