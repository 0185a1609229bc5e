use Rattle.js_entries.proofs.calls.constructed_by.Goals as goal

pub returns-in-Function : goal.returns-in-Function
returns-in-Function c = rw c.in-Function.is c.constructed.ensures

pub returns-in-Native : goal.returns-in-Native
returns-in-Native c = rw c.in-Native.is c.native_call.ensures
