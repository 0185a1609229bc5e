-- Worked calls, by computation. The values are those of the examples of the page on the Netscape Navigator Proxy
-- Auto-Config format.
use Rattle.std.specs.Prelude.{◌≡◌, [], ◌∷◌, true, false, pos, codes, refl}
use Rattle.heap_values.specs.declared.value.Value.TheVariants.{Number}
use Rattle.pac_functions.specs.Texts.{is_plain, ends_in_domain, is_host_or_first, levels_of}

pub plain : is_plain (codes "www") ≡ true
plain = refl

pub not_plain : is_plain (codes "www.netscape.com") ≡ false
not_plain = refl

pub in_domain : ends_in_domain (codes "www.netscape.com") (codes ".netscape.com") ≡ true
in_domain = refl

pub in_no_domain : ends_in_domain (codes "www") (codes ".netscape.com") ≡ false
in_no_domain = refl

pub in_other_domain : ends_in_domain (codes "www.mcom.com") (codes ".netscape.com") ≡ false
in_other_domain = refl

pub exact : is_host_or_first (codes "www.netscape.com") (codes "www.netscape.com") ≡ true
exact = refl

pub host_alone : is_host_or_first (codes "www") (codes "www.netscape.com") ≡ true
host_alone = refl

pub other_domain : is_host_or_first (codes "www.mcom.com") (codes "www.netscape.com") ≡ false
other_domain = refl

pub other_host : is_host_or_first (codes "home.netscape.com") (codes "www.netscape.com") ≡ false
other_host = refl

pub no_levels : levels_of (codes "www") ≡ Number (pos 0)
no_levels = refl

pub two_levels : levels_of (codes "www.netscape.com") ≡ Number (pos 2)
two_levels = refl
