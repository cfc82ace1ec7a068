-- Classes of bytes, and words made of them.
--
-- Sections of IEEE Std 1364-2005 are named where a class is the standard's: white space (3.2), identifiers (3.7), keywords (3.7.2),
-- escaped identifiers (3.7.1), compiler directives (19).
use Rattle.std.specs.Prelude.{ℕ, Bool, false, ◌||◌, ◌&&◌, not, List, [], ◌∷◌, ◌==◌, codes}
use Rattle.std.specs.List.{list_any, list_all}
use Rattle.std.specs.Char.{is_ascii_digit, is_ascii_alphabetic}
use Rattle.std.specs.Str.{bytes_eq}

-- ---- single bytes

abbrev pub newline : ℕ
newline = 10

abbrev pub quote : ℕ
quote = 34

abbrev pub dollar : ℕ
dollar = 36

abbrev pub open_paren : ℕ
open_paren = 40

abbrev pub close_paren : ℕ
close_paren = 41

abbrev pub star : ℕ
star = 42

abbrev pub slash : ℕ
slash = 47

abbrev pub backslash : ℕ
backslash = 92

abbrev pub underscore : ℕ
underscore = 95

abbrev pub backtick : ℕ
backtick = 96

-- ---- classes

-- Space, newline, tab, carriage return, form feed: white space (3.2). The carriage return is this project's own, for texts of other systems.
abbrev pub is_blank : ℕ → Bool
is_blank b = b == 32 || b == newline || b == 9 || b == 13 || b == 12

-- A byte that begins a name, A to Z, a to z and the underscore: identifiers (3.7).
abbrev pub is_start : ℕ → Bool
is_start b = is_ascii_alphabetic b || b == underscore

-- A byte of a name behind its first, which may also be a digit or a dollar sign: identifiers (3.7).
abbrev pub is_part : ℕ → Bool
is_part b = (is_start b || is_ascii_digit b) || b == dollar

-- ( ) [ ] { } , ; : . = are the marks: this project's own choice of the standard's operators and punctuation.
abbrev pub is_mark : ℕ → Bool
is_mark b = b == 40 || b == 41 || b == 91 || b == 93 || b == 123 || b == 125 || b == 44 || b == 59 || b == 58 || b == 46 || b == 61

-- A line ends at a newline only.
abbrev pub is_in_line : ℕ → Bool
is_in_line b = not (b == newline)

-- ---- lists of bytes

-- The list begins with such a byte.
abbrev pub begins : (ℕ → Bool) → List ℕ → Bool
begins p [] = false
begins p (b ∷ bs) = p b

-- One byte of the first class, and then only bytes of the second.
abbrev pub is_word : (ℕ → Bool) → (ℕ → Bool) → List ℕ → Bool
is_word p q [] = false
is_word p q (b ∷ bs) = p b && list_all q bs

abbrev pub is_among : List ℕ → List (List ℕ) → Bool
is_among word words = list_any (bytes_eq word) words

-- The reserved words: this project's own choice of the standard's keywords (3.7.2), so that a netlist's names may be any others.
unfoldable pub is_reserved : List ℕ → Bool
is_reserved word = is_among word
    (codes "module" ∷ codes "endmodule" ∷ codes "input" ∷ codes "output" ∷ codes "inout" ∷ codes "wire" ∷ codes "assign" ∷ codes "reg" ∷ codes "parameter"
    ∷ codes "defparam" ∷ codes "generate" ∷ codes "always" ∷ codes "initial" ∷ codes "function" ∷ codes "task" ∷ [])

-- A name that needs no backslash.
abbrev pub is_plain_name : List ℕ → Bool
is_plain_name word = is_word is_start is_part word && not (is_reserved word)

-- The directives that are skipped: cells (19.1) and time scales (19.8).
unfoldable pub is_skipped : List ℕ → Bool
is_skipped word = is_among word (codes "timescale" ∷ codes "celldefine" ∷ codes "endcelldefine" ∷ [])
