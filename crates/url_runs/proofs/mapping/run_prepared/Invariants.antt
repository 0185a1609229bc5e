use Rattle.std.proofs.Common.{◌≡◌, ◌+◌, length, map}
use Rattle.js_interp.specs.Answers.{entry_of}
use Rattle.report_text.specs.Report.{seen_end}
use Rattle.url_runs.specs.Runs.{program_runs}
use Rattle.url_runs.specs.Mapping.{mapped}
use Rattle.url_runs.proofs.mapping.run_prepared.Given as goal

-- of the entries so far; each was run once
abbrev pub invariant-loop-entry : goal.invariant-loop-entry
invariant-loop-entry g l =
    record {
      ends : map seen_end l.ends.items ≡ map (mapped (program_runs l.fn.program.program.now) l.fn.answers) (map entry_of l.yielded);
      ran : l.runs ≡ l.fn.runs + length l.yielded;
      left : length l.yielded + length l.entry-iterator.rest.items ≡ length l.fn.entries.items;
    }
