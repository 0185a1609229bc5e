use Rattle.js_regex.proofs.GroupCounts.{finds_groups}
use Rattle.js_regex.proofs.WithinText.{finds_within}
use Rattle.js_regex.proofs.search.find.Goals as goal

pub returns-clause-within : goal.returns-clause-within
returns-clause-within c = finds_within c.args.pattern.now c.args.text.now c.args.from c.args.fuel.now _ c.search.new.fuel c.requires c.search.ensures

pub returns-clause-groups : goal.returns-clause-groups
returns-clause-groups c = finds_groups c.args.pattern.now c.args.text.now c.args.from c.args.fuel.now _ c.search.new.fuel c.search.ensures
