-- Worked examples of the limits, by computation.
use Rattle.std.specs.Prelude.{◌≡◌, ℕ, List, [], ◌∷◌, ◌++◌, true, false, replicate, codes, refl}
use Rattle.pac_names.specs.declared.kind.NameKind.TheVariants.{V4, V6}
use Rattle.pac_names.specs.Names.{Name}
use Rattle.js_host.specs.Seen.{is_one_too_many, with_name, with_alert, kept_alerts}

-- a name of each kind
abbrev named : List ℕ → Name
named text = record { kind = V4; text = text }

abbrev named6 : List ℕ → Name
named6 text = record { kind = V6; text = text }

-- a new name behind 31 others is written down, and behind 32 is one too many; one that was asked never is
pub thirty_second : is_one_too_many (replicate 31 (named (codes "a"))) (named (codes "b")) ≡ false
thirty_second = refl

pub thirty_third : is_one_too_many (replicate 32 (named (codes "a"))) (named (codes "b")) ≡ true
thirty_third = refl

pub asked_before : is_one_too_many (replicate 32 (named (codes "a"))) (named (codes "a")) ≡ false
asked_before = refl

-- a name of the other kind is another name
pub other_kind : is_one_too_many (replicate 32 (named (codes "a"))) (named6 (codes "a")) ≡ true
other_kind = refl

pub new_at_the_end : with_name (named (codes "a") ∷ named6 (codes "b") ∷ []) (named (codes "b")) ≡ named (codes "a") ∷ named6 (codes "b") ∷ named (codes "b") ∷ []
new_at_the_end = refl

pub once_alone : with_name (named (codes "a") ∷ named6 (codes "b") ∷ []) (named6 (codes "b")) ≡ named (codes "a") ∷ named6 (codes "b") ∷ []
once_alone = refl

-- the 256th alert is kept, and the 257th isn't
pub last_alert : with_alert (replicate 255 []) (codes "a") ≡ replicate 255 [] ++ codes "a" ∷ []
last_alert = refl

pub alert_past_the_limit : with_alert (replicate 256 []) (codes "a") ≡ replicate 256 []
alert_past_the_limit = refl

-- a text of 1,025 units is cut to 1,024
pub long_alert : with_alert [] (replicate 1025 97) ≡ replicate 1024 97 ∷ []
long_alert = refl

pub many_alerts : kept_alerts (replicate 257 (codes "a")) ≡ replicate 256 (codes "a")
many_alerts = refl
