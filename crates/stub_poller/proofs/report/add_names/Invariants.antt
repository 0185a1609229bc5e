use Rattle.std.proofs.Common.{◌≡◌, ◌+◌, ◌≤◌, ◌++◌, take, vec_capacity, vec_len}
use Rattle.stub_poller.proofs.report.add_names.Given as goal

abbrev pub invariant-loop-name : goal.invariant-loop-name
invariant-loop-name l = record {
  added : l.list.items ≡ l.initial.list.items ++ take l.name-index l.names;
  long : vec_len l.list ≤ vec_len l.initial.list + l.name-index;
  capacity : vec_capacity l.initial.list ≤ vec_capacity l.list;
}
