-- A stub whose report is lent.
use Rattle.std.specs.Prelude.{◌≡◌, ⊤}
use Rattle.std.specs.Borrow.{MutBor, Fml, follows_so}
use mathlib.Core.Option.{none}
use Rattle.stub_poller.specs.State.{StubState, beaten}
use Rattle.stub_poller.specs.contracts.stub.Stub.{the_row}

-- once the report is given back, the stub is one beat older
abbrev pub EndsBeaten : MutBor StubState → Fml
EndsBeaten stub = follows_so the_row the_row stub.ghost_name none (λ _ _. ⊤) (λ after. after ≡ beaten stub.now)
