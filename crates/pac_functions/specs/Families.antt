-- The functions that ask for addresses of both families, as texts (this project's, under the names that browsers have).
use Rattle.std.specs.Prelude.{ℕ, List, [], ◌++◌, codes, Option, Some, None, option_map}
use Rattle.heap_values.specs.declared.value.Value.{Value}
use Rattle.pac_names.specs.Names.{lookup_name_of, lookup_name6_of}
use Rattle.pac_names.specs.Quads.{quad_of, quad_text}
use Rattle.pac_ext.specs.Reading.{ipv6_of}
use Rattle.pac_ext.specs.Writing.{ipv6_text}
use Rattle.run_trees.specs.RunTree.{RunTree}
use Rattle.pac_functions.specs.Texts.{text_in}
use Rattle.pac_functions.specs.Addresses.{PacEnd, named_then, ipv4_in, ipv6_in}

-- what comes after the text of some addresses is known
abbrev pub AfterText : Type 0
AfterText = List ℕ → RunTree PacEnd

-- the address of an IPv6 name and that of an IPv4 name, the former first, parted by `;` where both are there
abbrev pub joined : Option ℕ → Option ℕ → List ℕ
joined None None = []
joined None (Some four) = quad_text four
joined (Some six) None = ipv6_text six
joined (Some six) (Some four) = ipv6_text six ++ codes ";" ++ quad_text four

-- the plain text of an address that is written, of either family
abbrev pub plain_text : Option ℕ → Option ℕ → Option (List ℕ)
plain_text (Some four) six = Some (quad_text four)
plain_text None six = option_map ipv6_text six

-- the IPv6 name of a text is asked, and then its IPv4 name; a text that is no name has no address
abbrev pub asked_then : List ℕ → AfterText → RunTree PacEnd
asked_then text next =
    named_then (lookup_name6_of text) (λ six. named_then (lookup_name_of text) (λ four. next (joined (ipv6_in six) (ipv4_in four))))

abbrev pub written_then : Option (List ℕ) → List ℕ → AfterText → RunTree PacEnd
written_then (Some plain) text next = next plain
written_then None text next = asked_then text next

-- the addresses of the first argument: the one that it writes, else those of the names that it spells
abbrev pub both_resolved : List Value → AfterText → RunTree PacEnd
both_resolved args next =
    let text = text_in args 0 in written_then (plain_text (quad_of text) (ipv6_of text)) text next
