use Rattle.std.proofs.Common.{sym, ◌∙◌}
use Rattle.js_pattern_natives.proofs.Works.{match_all, match_one}
use Rattle.js_pattern_natives.proofs.searching.Search.matches.Goals as goal

pub returns-then-is_global : goal.returns-then-is_global
returns-then-is_global c = match_all c.args.self.now.pattern c.args.self.now.literal c.args.self.now.place c.args.self.now.text c.args.begin _ _ _
    (sym c.if-is_global.true ∙ c.is_global.ensures) c.match_all.ensures

pub returns-else-is_global : goal.returns-else-is_global
returns-else-is_global c = match_one c.args.self.now.pattern c.args.self.now.literal c.args.self.now.place c.args.self.now.text c.args.begin _ _ _
    (sym c.if-is_global.false ∙ c.is_global.ensures) c.exec.ensures
