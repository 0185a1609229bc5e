use Rattle.heap_steps.proofs.primitives.stepped.Goals as goal

pub returns-in-Increment : goal.returns-in-Increment
returns-in-Increment c = λ call. rw c.in-Increment.is (rw (c.add.ensures, c.from-one.ensures) at (c.whole_or_fault.ensures call))

pub returns-in-Decrement : goal.returns-in-Decrement
returns-in-Decrement c = λ call. rw c.in-Decrement.is (rw (c.sub.ensures, c.from-one.ensures) at (c.whole_or_fault-in-Decrement.ensures call))
