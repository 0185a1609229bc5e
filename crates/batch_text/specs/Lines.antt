-- The lines of a batch and of a file of names.
use Rattle.std.specs.Prelude.{ℕ, ◌-◌, List, [], ◌∷◌, Bool, false, not, ◌||◌, nat_eq, length, map, take, drop, reverse}
use Rattle.std.specs.List.{list_all, prefix_len}
use Rattle.bstr.specs.Text.{lines_of, without_terminator}

-- the lines, each without its line feed and without a carriage return before it
abbrev pub lines : List ℕ → List (List ℕ)
lines bytes = map without_terminator (lines_of bytes)

-- a space or a tab
abbrev pub is_blank : ℕ → Bool
is_blank byte = nat_eq byte 32 || nat_eq byte 9

-- a comment begins with `#` (35)
abbrev pub is_comment : List ℕ → Bool
is_comment [] = false
is_comment (byte ∷ bytes) = nat_eq byte 35

-- what says nothing: a comment, and blanks alone
abbrev pub says_nothing : List ℕ → Bool
says_nothing line = is_comment line || list_all is_blank line

-- how many bytes stand before the first blank
abbrev pub word_length : List ℕ → ℕ
word_length line = prefix_len (λ byte. not (is_blank byte)) line

-- what stands before the first blank
abbrev pub word_of : List ℕ → List ℕ
word_of line = take (word_length line) line

-- without the blanks in front
abbrev pub without_indent : List ℕ → List ℕ
without_indent bytes = drop (prefix_len is_blank bytes) bytes

-- without the blanks at the end
abbrev pub without_end : List ℕ → List ℕ
without_end bytes = take (length bytes - prefix_len is_blank (reverse bytes)) bytes

-- what stands behind the first blanks, without the blanks at its end
abbrev pub rest_of : List ℕ → List ℕ
rest_of line = without_end (without_indent (drop (word_length line) line))
