-- Plain names, as a netlist's text has them.
--
-- Section 3.7 of IEEE Std 1364-2005 has the form of identifiers, and 3.7.2 the keywords.
use Rattle.std.specs.Prelude.{ℕ, Bool, ◌||◌, ◌&&◌, not, List, [], ◌∷◌, ◌==◌, codes, length, slice_index}
use Rattle.std.specs.List.{list_any, list_all}
use Rattle.std.specs.Char.{is_ascii_digit, is_ascii_alphabetic}
use Rattle.std.specs.Str.{bytes_eq}

-- a letter or the underscore
abbrev pub is_start : ℕ → Bool
is_start byte = is_ascii_alphabetic byte || byte == 95

-- a byte of a name behind its first, which may also be a digit or a dollar sign
abbrev pub is_part : ℕ → Bool
is_part byte = (is_start byte || is_ascii_digit byte) || byte == 36

-- the words that no cell and no pin may be called
unfoldable pub is_reserved : List ℕ → Bool
is_reserved word = list_any (bytes_eq word)
    (codes "module" ∷ codes "endmodule" ∷ codes "input" ∷ codes "output" ∷ codes "inout" ∷ codes "wire" ∷ codes "assign" ∷ codes "reg" ∷ codes "parameter"
    ∷ codes "defparam" ∷ codes "generate" ∷ codes "always" ∷ codes "initial" ∷ codes "function" ∷ codes "task" ∷ [])

-- the form of a plain name: a letter or an underscore, and then only letters, digits, underscores and dollar signs
abbrev pub has_form : List ℕ → Bool
has_form word = not (length word == 0) && is_start (slice_index word 0) && list_all is_part word

-- a plain name that is not reserved
abbrev pub is_plain_name : List ℕ → Bool
is_plain_name word = has_form word && not (is_reserved word)
