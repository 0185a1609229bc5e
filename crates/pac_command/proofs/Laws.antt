-- The laws that the commands keep.
use Rattle.std.proofs.Common.{refl}
use Rattle.js_grammar.specs.Tokens.{piece_at, tokens_from}
use Rattle.js_grammar.specs.Literals.{text_from}
use Rattle.js_grammar.specs.Readers.{a_parameter, any_word, expect, name, parameters, row_of, semicolon}
use Rattle.js_grammar.specs.Expressions.{a_part, a_statement, a_suffix, an_argument, an_operand, arguments, assignment, chain, conditional, expression, function_from, in_parentheses, level, postfix, primary, suffixed, unary}
use Rattle.js_grammar.specs.Statements.{a_branch, a_declared, block, block_from, deeper, evaluated, first_value, function_statement, if_statement, one_branch, otherwise, return_statement, script_within, statement, var_statement}
use Rattle.js_evaluation.specs.Evaluation.{run_by_names}
use Rattle.js_law_evaluation.proofs.OfEvaluation.{asks-by-names}
use Rattle.poll_loop.proofs.Kept.{memory_cut}
use Rattle.pac_ask.proofs.Begin as name_begins
use Rattle.pac_ask.proofs.Answered as name_told
use Rattle.url_runs.proofs.Completions.{completion, each_map_is_taken}
use Rattle.url_runs.proofs.Counting.{few}
use Rattle.url_runs.proofs.Sound as urls
use Rattle.url_runs.proofs.Answered as urls_told
use Rattle.memory_talk.proofs.Same as answered
use Rattle.pac_command.proofs.GeneratedLog.{generate_has_its_log}
use Rattle.pac_command.proofs.Terms.{terms_are_read}
use Rattle.pac_command.specs.Laws.{CommandsKeepLaws, ScriptIsRead}

script_is_read : ScriptIsRead
unfolding piece_at tokens_from text_from a_parameter any_word expect name parameters row_of semicolon a_part a_statement a_suffix an_argument an_operand arguments assignment chain conditional expression function_from in_parentheses level postfix primary suffixed unary a_branch a_declared block block_from deeper evaluated first_value function_statement if_statement one_branch otherwise return_statement script_within statement var_statement
script_is_read = (_, refl)

pub laws : CommandsKeepLaws
laws = record {
  agreeing_map = completion;
  each_agreeing_map = each_map_is_taken;
  few_runs = few;
  urls_are_sound = λ script. urls.sound (run_by_names script) (λ entry. asks-by-names script entry);
  name_is_sound = λ upstream n terms named. name_begins.sound upstream.terms n terms named;
  unfinished_is_cut = memory_cut;
  urls_are_answered = urls_told.answered;
  name_is_answered = name_told.answered;
  script_is_read = script_is_read;
  one_log = answered.one_log;
  its_log = generate_has_its_log;
  terms_are_read = terms_are_read;
}
