-- What the words ask for is asked for with terms in their ranges.
use Rattle.std.proofs.Common.{◌≡◌, ◌≤◌, ℕ, Bool, true, false, List, [], ◌∷◌, Option, Some, None, refl, sym, subst, codes, cond, arith}
use Rattle.std.proofs.lemmas.Bool.Decides.{nat_tests}
use Rattle.std.proofs.lemmas.Option.{option_and_then_some}
use Rattle.std.specs.Option.{option_map}
use Rattle.std.specs.Str.{bytes_eq}
use Rattle.std.specs.Str.Parse.{digits_value}
use Rattle.batch_text.specs.declared.batch.TheConstants.{MOST_URLS}
use Rattle.poll_log.specs.declared.terms.TheConstants.{MOST_TRIES, MOST_WAIT}
use Rattle.poll_log.specs.Sendings.{AreTerms}
use Rattle.pac_words.specs.declared.usual.TheConstants.{USUAL_WAIT, USUAL_TRIES}
use Rattle.pac_words.specs.Commands.{Asked, Asking, Given, ask_of, check_of, generate_of, map_of, number_given, read_by, resolve_of, running_of, source_from}
use Rattle.pac_words.specs.Commands as words
use Rattle.pac_words.specs.Rules.{Table, Text, said_of, value_of}
use Rattle.pac_words.specs.Tables.{resolve_table, map_table, check_table, ask_table, generate_table}
use Rattle.pac_words.specs.Values.{between, is_number, number_in, number_or, servers_or}
use Rattle.pac_command.specs.Commands.{upstream_of}
use Rattle.pac_command.specs.Laws.{IsAskedWith, TermsAreRead}

abbrev Keeps : Asked → Type 0
Keeps asked = (how : Asking) → IsAskedWith how asked → AreTerms (upstream_of how).terms

option_map_some : {A B P : Type 0} (f : A → B) (o : Option A) (y : B) → option_map f o ≡ Some y → ((x : A) → o ≡ Some x → f x ≡ y → P) → P
option_map_some f None y e next = cc
option_map_some f (Some x) y e next = next x refl cc

-- ---- numbers

in_bounds : (low high n m : ℕ) → between low high n ≡ Some m → (low ≤ m) × (m ≤ high)
in_bounds low high n m e = grind (arith, nat_tests)

number_bounds : (low high : ℕ) (text : Text) (m : ℕ) → number_in low high text ≡ Some m → (low ≤ m) × (m ≤ high)
number_bounds low high text m e = go (is_number text) e
  where
    go : (b : Bool) → cond b (between low high (digits_value 10 text)) None ≡ Some m → (low ≤ m) × (m ≤ high)
    go true f = in_bounds low high (digits_value 10 text) m f
    go false f = cc

bounds : (usual low high : ℕ) (given : Option Text) (m : ℕ) → low ≤ usual → usual ≤ high → number_or usual low high given ≡ Some m → (low ≤ m) × (m ≤ high)
bounds usual low high None m above below e = grind arith
bounds usual low high (Some text) m above below e = number_bounds low high text m e

-- ---- commands

terms_given : (given : Given) (how : Asking) → words.asking_of given ≡ Some how → AreTerms (upstream_of how).terms
terms_given given how e =
    option_and_then_some _ (servers_or (given (codes "server")) (given (codes "second"))) how e (λ servers _ e1.
    option_and_then_some _ (number_or USUAL_WAIT 1 MOST_WAIT (given (codes "wait"))) how e1 (λ wait of_wait e2.
    option_map_some _ (number_or USUAL_TRIES 1 MOST_TRIES (given (codes "tries"))) how e2 (λ tries of_tries same.
    let w = bounds USUAL_WAIT 1 MOST_WAIT (given (codes "wait")) wait (omega arith) (omega arith) of_wait in
    let t = bounds USUAL_TRIES 1 MOST_TRIES (given (codes "tries")) tries (omega arith) (omega arith) of_tries in
    subst (λ h. AreTerms (upstream_of h).terms) same (record { waits = omega (arith, w.0); wait = w.1; tried = omega (arith, t.0); tries = t.1 }))))

-- where what was read is what names are asked for with
asks_so : (given : Given) (own how : Asking) → words.asking_of given ≡ Some own → how ≡ own → AreTerms (upstream_of how).terms
asks_so given own how of_own same = subst (λ h. AreTerms (upstream_of h).terms) (sym same) (terms_given given own of_own)

resolve_keeps : (given : Given) (asked : Asked) → resolve_of given ≡ Some asked → Keeps asked
resolve_keeps given asked e =
    option_and_then_some _ (given (codes "script")) asked e (λ script _ e1.
    option_and_then_some _ (source_from (given (codes "url")) (given (codes "batch"))) asked e1 (λ source _ e2.
    option_and_then_some _ (words.asking_of given) asked e2 (λ own of_own e3.
    option_map_some _ (running_of given) asked e3 (λ running _ same. subst Keeps same (λ how is. asks_so given own how of_own is)))))

map_keeps : (given : Given) (asked : Asked) → map_of given ≡ Some asked → Keeps asked
map_keeps given asked e =
    option_and_then_some _ (given (codes "names")) asked e (λ names _ e1.
    option_and_then_some _ (given (codes "script")) asked e1 (λ script _ e2.
    option_and_then_some _ (source_from (given (codes "url")) (given (codes "batch"))) asked e2 (λ source _ e3.
    option_map_some _ (running_of given) asked e3 (λ running _ same. subst Keeps same (λ how is. absurd is)))))

check_keeps : (given : Given) (asked : Asked) → check_of given ≡ Some asked → Keeps asked
check_keeps given asked e = option_map_some _ (given (codes "script")) asked e (λ script _ same. subst Keeps same (λ how is. absurd is))

ask_keeps : (given : Given) (asked : Asked) → ask_of given ≡ Some asked → Keeps asked
ask_keeps given asked e =
    option_and_then_some _ (given (codes "name")) asked e (λ name _ e1.
    option_map_some _ (words.asking_of given) asked e1 (λ own of_own same. subst Keeps same (λ how is. asks_so given own how of_own is)))

generate_keeps : (given : Given) (asked : Asked) → generate_of given ≡ Some asked → Keeps asked
generate_keeps given asked e =
    option_and_then_some _ (number_given 0 4294967295 (given (codes "seed"))) asked e (λ seed _ e1.
    option_map_some _ (number_given 1 MOST_URLS (given (codes "sites"))) asked e1 (λ sites _ same. subst Keeps same (λ how is. absurd is)))

-- ---- words

by_table : (t : Table) (command : Given → Option Asked) → ((given : Given) (asked : Asked) → command given ≡ Some asked → Keeps asked)
    → (ws : List Text) (asked : Asked) → read_by t command ws ≡ Some asked → Keeps asked
by_table t command keeps ws asked e = option_and_then_some _ (said_of t ws) asked e (λ said _ e1. keeps (λ name. value_of name said) asked e1)

either : {asked : Asked} (b : Bool) (one other : Option Asked) → (one ≡ Some asked → Keeps asked) → (other ≡ Some asked → Keeps asked)
    → cond b one other ≡ Some asked → Keeps asked
either true one other first second e = first e
either false one other first second e = second e

nothing : {P : Type 0} (asked : Asked) → None ≡ Some asked → P
nothing asked e = cc

pub terms_are_read : TermsAreRead
terms_are_read [] asked e = cc
terms_are_read (name ∷ ws) asked e =
    either (bytes_eq name (codes "resolve")) _ _ (by_table resolve_table _ resolve_keeps ws asked)
    (either (bytes_eq name (codes "map")) _ _ (by_table map_table _ map_keeps ws asked)
    (either (bytes_eq name (codes "check")) _ _ (by_table check_table _ check_keeps ws asked)
    (either (bytes_eq name (codes "ask")) _ _ (by_table ask_table _ ask_keeps ws asked)
    (either (bytes_eq name (codes "generate")) _ _ (by_table generate_table _ generate_keeps ws asked) (nothing asked))))) e
