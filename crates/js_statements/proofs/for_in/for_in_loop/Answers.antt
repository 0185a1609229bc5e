use Rattle.js_statements.proofs.Listing.{first_by}
use Rattle.js_statements.proofs.for_in.for_in_loop.Goals as goal

pub returns-in-Expression : goal.returns-in-Expression
returns-in-Expression c = first_by c.args.looped c.args.object.now _ c.in-Expression.is c.object_of.ensures

pub returns-in-Declared : goal.returns-in-Declared
returns-in-Declared c = first_by c.args.looped c.args.object.now _ c.in-Declared.is c.declared_in.ensures
