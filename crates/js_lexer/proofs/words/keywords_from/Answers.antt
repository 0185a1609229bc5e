use Rattle.std.proofs.Common.{◌≡◌, ◌∙◌, ap, arith}
use Rattle.js_lexer.specs.Keywords.{keywords_from}
use Rattle.js_lexer.proofs.Keywords.{from_b, from_c, from_d, from_e, from_f, from_i, from_n, from_r, from_s, from_t, from_v, from_w, none_from}
use Rattle.js_lexer.proofs.words.keywords_from.Goals as goal

pub returns-in-98 : goal.returns-in-98
returns-in-98 c = let e : 98 ≡ c.args.unit = omega arith in from_b ∙ ap keywords_from e

pub returns-in-99 : goal.returns-in-99
returns-in-99 c = let e : 99 ≡ c.args.unit = omega arith in from_c ∙ ap keywords_from e

pub returns-in-100 : goal.returns-in-100
returns-in-100 c = let e : 100 ≡ c.args.unit = omega arith in from_d ∙ ap keywords_from e

pub returns-in-101 : goal.returns-in-101
returns-in-101 c = let e : 101 ≡ c.args.unit = omega arith in from_e ∙ ap keywords_from e

pub returns-in-102 : goal.returns-in-102
returns-in-102 c = let e : 102 ≡ c.args.unit = omega arith in from_f ∙ ap keywords_from e

pub returns-in-105 : goal.returns-in-105
returns-in-105 c = let e : 105 ≡ c.args.unit = omega arith in from_i ∙ ap keywords_from e

pub returns-in-110 : goal.returns-in-110
returns-in-110 c = let e : 110 ≡ c.args.unit = omega arith in from_n ∙ ap keywords_from e

pub returns-in-114 : goal.returns-in-114
returns-in-114 c = let e : 114 ≡ c.args.unit = omega arith in from_r ∙ ap keywords_from e

pub returns-in-115 : goal.returns-in-115
returns-in-115 c = let e : 115 ≡ c.args.unit = omega arith in from_s ∙ ap keywords_from e

pub returns-in-116 : goal.returns-in-116
returns-in-116 c = let e : 116 ≡ c.args.unit = omega arith in from_t ∙ ap keywords_from e

pub returns-in-118 : goal.returns-in-118
returns-in-118 c = let e : 118 ≡ c.args.unit = omega arith in from_v ∙ ap keywords_from e

pub returns-in-119 : goal.returns-in-119
returns-in-119 c = let e : 119 ≡ c.args.unit = omega arith in from_w ∙ ap keywords_from e

pub returns-in_default : goal.returns-in_default
returns-in_default c = none_from c.args.unit (λ e. omega arith) (λ e. omega arith) (λ e. omega arith) (λ e. omega arith) (λ e. omega arith) (λ e. omega arith) (λ e. omega arith) (λ e. omega arith) (λ e. omega arith) (λ e. omega arith) (λ e. omega arith) (λ e. omega arith)

pub returns-in_default-letter : goal.returns-in_default-letter
returns-in_default-letter c = none_from c.args.unit (λ e. omega arith) (λ e. omega arith) (λ e. omega arith) (λ e. omega arith) (λ e. omega arith) (λ e. omega arith) (λ e. omega arith) (λ e. omega arith) (λ e. omega arith) (λ e. omega arith) (λ e. omega arith) (λ e. omega arith)
