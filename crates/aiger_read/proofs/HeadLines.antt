-- The first line, read and written.
use Rattle.std.proofs.Common.{◌≡◌, ◌≢◌, ◌∙◌, inl, inr, ◌<◌, ◌≤◌, ◌+◌, ◌-◌, ◌==◌, ℕ, Bool, true, false, cond, zero, suc, refl, ap, sym, subst, arith, List, [], ◌∷◌, ◌++◌, length, take, drop, append_assoc, Ok, Err}
use Rattle.rsfq_ids.specs.declared.limits.TheConstants.{AIG_LIMIT}
use Rattle.std.specs.Prelude.{nat_lt, nat_le, nat_eq, ◌&&◌, ◌||◌, replicate}
use Rattle.std.specs.List.{AllZip, starts_with}
use Rattle.std.specs.Char.{digit_value}
use Rattle.std.specs.Str.Parse.{AllDigits}
use Rattle.std.proofs.lemmas.Bool.{eqb-true, ne_eqb, ltb-false, le-ltb, leb-true, le-leb}
use Rattle.std.proofs.lemmas.List.{take-append-drop}
use Rattle.std.proofs.lemmas.Slice.Eq.{bytes_eq-Decides}
use Rattle.std.proofs.lemmas.Str.Parse.{digit_from_value}
use Rattle.aiger_parts.specs.declared.fault.AigerWhy.TheVariants as why
use Rattle.aiger_parts.specs.declared.header.Form.{Form}
use Rattle.aiger_parts.specs.declared.header.Form.TheVariants as form
use Rattle.aiger_parts.specs.declared.header.Header.{Header}
use Rattle.aiger_parts.specs.Reading.{◌>>=◌, fault, field_length, field_at}
use Rattle.aiger_parts.specs.Header.{spaces_in, word_of, has_head, fits_form, zeros_at, variables_at, latches_at, counts_at, header_at}
use Rattle.aiger_read.specs.Spelling.{WritesNumber}
use Rattle.aiger_read.specs.Spelled.{in_fields, IsHeadLine}
use Rattle.aiger_read.proofs.WellFormed.{given, same_value, bind_ok, unless_ok, when_ok}
use Rattle.aiger_read.proofs.FileLines.{IsTail, LineAt}
use Rattle.aiger_read.proofs.FieldTexts.{field_read, field_written, tail_stops}

-- ---- how many spaces are left

digit_apart : (b : ℕ) → digit_value b < 10 → ((b == 32) ≡ false) × ((b == 10) ≡ false)
digit_apart b digit =
    let range = digit_from_value b digit in
    let low = range.0 in
    let high = range.1 in
    let space : b ≢ 32 = λ e. absurd (omega arith) in
    let newline : b ≢ 10 = λ e. absurd (omega arith) in
    (ne_eqb b 32 space, ne_eqb b 10 newline)

digits_spaces : (field tail : List ℕ) → AllDigits 10 field → spaces_in (field ++ tail) ≡ spaces_in tail
digits_spaces [] tail all = refl
digits_spaces (b ∷ bs) tail all =
    let more = digits_spaces bs tail all.1 in
    let none : 0 + spaces_in tail ≡ spaces_in tail = omega arith in
    rw ((digit_apart b all.0).1, (digit_apart b all.0).0, more) none

pub field_spaces : (field tail : List ℕ) (n : ℕ) → WritesNumber field n → spaces_in (field ++ tail) ≡ spaces_in tail
field_spaces field tail n w = digits_spaces field tail w.digits.1

tail_spaces : (tail rest : List ℕ) → IsTail tail rest → spaces_in tail ≡ 0
tail_spaces tail rest (inl newline) = rw newline refl
tail_spaces tail rest (inr (empty, none)) = rw empty refl

-- ---- a field and a space, and the last field

pub record Spaced (bytes : List ℕ) (n k : ℕ) (rest : List ℕ) : Type 0 where
  pub field : List ℕ
  pub parts : bytes ≡ field ++ 32 ∷ rest
  pub writes : WritesNumber field n
  pub left : spaces_in rest ≡ k

record Last (bytes : List ℕ) (n : ℕ) (rest : List ℕ) : Type 0 where
  field : List ℕ
  tail : List ℕ
  parts : bytes ≡ field ++ tail
  writes : WritesNumber field n
  ends : IsTail tail rest

-- what may stand behind a field
pub is_space : (tail rest : List ℕ) (k : ℕ) → field_length tail ≡ 0 → spaces_in tail ≡ suc k → drop 1 tail ≡ rest → (tail ≡ 32 ∷ rest) × (spaces_in rest ≡ k)
is_space [] rest k stops count behind = absurd (omega arith)
is_space (x ∷ xs) rest k stops count behind = go (x == 32) (x == 10) refl refl stops count where
  go : (s n : Bool) → (x == 32) ≡ s → (x == 10) ≡ n → cond (s || n) 0 (1 + field_length xs) ≡ 0 → cond n 0 (cond s 1 0 + spaces_in xs) ≡ suc k → (x ∷ xs ≡ 32 ∷ rest) × (spaces_in rest ≡ k)
  go s true s_is n_is h c = absurd (omega arith)
  go true false s_is n_is h c =
      let space : x ≡ 32 = eqb-true x 32 s_is in
      let left : spaces_in xs ≡ k = omega arith in
      (ap (λ (b : ℕ). b ∷ xs) space ∙ ap (λ (r : List ℕ). 32 ∷ r) behind, ap spaces_in (sym behind) ∙ left)
  go false false s_is n_is h c = absurd (omega arith)

pub is_end : (tail rest : List ℕ) → field_length tail ≡ 0 → spaces_in tail ≡ 0 → drop 1 tail ≡ rest → IsTail tail rest
is_end [] rest stops count behind = inr (refl, sym behind)
is_end (x ∷ xs) rest stops count behind = go (x == 32) (x == 10) refl refl stops count where
  go : (s n : Bool) → (x == 32) ≡ s → (x == 10) ≡ n → cond (s || n) 0 (1 + field_length xs) ≡ 0 → cond n 0 (cond s 1 0 + spaces_in xs) ≡ 0 → IsTail (x ∷ xs) rest
  go s true s_is n_is h c = let newline : x ≡ 10 = eqb-true x 10 n_is in inl (ap (λ (b : ℕ). b ∷ xs) newline ∙ ap (λ (r : List ℕ). 10 ∷ r) behind)
  go true false s_is n_is h c = absurd (omega arith)
  go false false s_is n_is h c = absurd (omega arith)

pub spaced : (bytes : List ℕ) (n k : ℕ) (rest : List ℕ) → field_at bytes ≡ given (n, rest) → spaces_in bytes ≡ suc k → Spaced bytes n k rest
spaced bytes n k rest e count =
    let read = field_read bytes n rest e in
    let field = read.1 in
    let count_tail : spaces_in read.0 ≡ suc k = sym (field_spaces field.field read.0 n field.writes) ∙ ap spaces_in (sym field.parts) ∙ count in
    let tail = is_space read.0 rest k field.stops count_tail read.2 in
    record { field = field.field; parts = field.parts ∙ ap (λ (t : List ℕ). field.field ++ t) tail.0; writes = field.writes; left = tail.1 }

last : (bytes : List ℕ) (n : ℕ) (rest : List ℕ) → field_at bytes ≡ given (n, rest) → spaces_in bytes ≡ 0 → Last bytes n rest
last bytes n rest e count =
    let read = field_read bytes n rest e in
    let field = read.1 in
    let count_tail : spaces_in read.0 ≡ 0 = sym (field_spaces field.field read.0 n field.writes) ∙ ap spaces_in (sym field.parts) ∙ count in
    record { field = field.field; tail = read.0; parts = field.parts; writes = field.writes; ends = is_end read.0 rest field.stops count_tail read.2 }

space_behind : (field rest : List ℕ) (n : ℕ) → WritesNumber field n → field_at (field ++ 32 ∷ rest) ≡ given (n, rest)
space_behind field rest n w = field_written field (32 ∷ rest) n w refl

end_behind : (field tail rest : List ℕ) (n : ℕ) → WritesNumber field n → IsTail tail rest → field_at (field ++ tail) ≡ given (n, rest)
end_behind field tail rest n w ends = field_written field tail n w (tail_stops tail rest ends) ∙ ap (λ (r : List ℕ). given (n, r)) (behind ends) where
  behind : IsTail tail rest → drop 1 tail ≡ rest
  behind (inl newline) = rw newline refl
  behind (inr (empty, none)) = rw (empty, none) refl

-- ---- the last needed number and the further ones

pub record Further (bytes : List ℕ) (n z : ℕ) (rest : List ℕ) : Type 0 where
  pub field : List ℕ
  pub further : List (List ℕ)
  pub tail : List ℕ
  pub parts : bytes ≡ field ++ (in_fields further ++ tail)
  pub writes : WritesNumber field n
  pub many : length further ≡ z
  pub zeros : AllZip WritesNumber further (replicate (length further) 0)
  pub ends : IsTail tail rest

pub further : (z : ℕ) (bytes : List ℕ) (n : ℕ) (behind rest : List ℕ) → field_at bytes ≡ given (n, behind) → zeros_at z behind ≡ given rest → spaces_in bytes ≡ z → Further bytes n z rest
further zero bytes n behind rest e zeros count =
    let l = last bytes n behind e count in
    let same : behind ≡ rest = same_value behind rest zeros in
    record { field = l.field; further = []; tail = l.tail; parts = l.parts; writes = l.writes; many = refl; zeros = tt; ends = subst (IsTail l.tail) same l.ends }
further (suc z) bytes n behind rest e zeros count =
    let s = spaced bytes n z behind e count in
    let field = bind_ok (field_at behind) (λ x. cond (x.0 == 0) (Ok x.1) (Err (fault why.Extended behind)) >>= λ r. zeros_at z r) rest zeros in
    let test = bind_ok (cond (field.0.0 == 0) (Ok field.0.1) (Err (fault why.Extended behind))) (λ r. zeros_at z r) rest field.2 in
    let zero_is = when_ok (field.0.0 == 0) (fault why.Extended behind) (Ok field.0.1) test.0 test.1 in
    let value : field.0.0 ≡ 0 = eqb-true field.0.0 0 zero_is.0 in
    let behind_is : field.0.1 ≡ test.0 = same_value field.0.1 test.0 zero_is.1 in
    let read : field_at behind ≡ given (0, test.0) = field.1 ∙ ap (λ (m : ℕ). given (m, field.0.1)) value ∙ ap (λ (r : List ℕ). given (0, r)) behind_is in
    let more = further z behind 0 test.0 rest read test.2 s.left in
    record {
      field = s.field;
      further = more.field ∷ more.further;
      tail = more.tail;
      parts = s.parts ∙ ap (λ (b : List ℕ). s.field ++ 32 ∷ b) (more.parts ∙ sym (append_assoc more.field (in_fields more.further) more.tail));
      writes = s.writes;
      many = ap suc more.many;
      zeros = (more.writes, more.zeros);
      ends = more.ends;
    }

record FurtherRead (field : List ℕ) (n : ℕ) (others : List (List ℕ)) (tail rest : List ℕ) : Type 0 where
  behind : List ℕ
  first : field_at (field ++ (in_fields others ++ tail)) ≡ given (n, behind)
  zeros : zeros_at (length others) behind ≡ given rest

further_again : (field : List ℕ) (n : ℕ) (others : List (List ℕ)) (tail rest : List ℕ) → WritesNumber field n → AllZip WritesNumber others (replicate (length others) 0) → IsTail tail rest → FurtherRead field n others tail rest
further_again field n [] tail rest w zeros ends = record { behind = rest; first = end_behind field tail rest n w ends; zeros = refl }
further_again field n (other ∷ others) tail rest w zeros ends =
    let more = further_again other 0 others tail rest zeros.0 zeros.1 ends in
    let behind = other ++ (in_fields others ++ tail) in
    record {
      behind = behind;
      first = ap (λ (b : List ℕ). field_at (field ++ 32 ∷ b)) (append_assoc other (in_fields others) tail) ∙ space_behind field behind n w;
      zeros = rw more.first more.zeros;
    }

further_spaces : (field : List ℕ) (n : ℕ) (others : List (List ℕ)) (tail rest : List ℕ) → WritesNumber field n → AllZip WritesNumber others (replicate (length others) 0) → IsTail tail rest → spaces_in (field ++ (in_fields others ++ tail)) ≡ length others
further_spaces field n [] tail rest w zeros ends = field_spaces field tail n w ∙ tail_spaces tail rest ends
further_spaces field n (other ∷ others) tail rest w zeros ends =
    let more = further_spaces other 0 others tail rest zeros.0 zeros.1 ends in
    let same : spaces_in (32 ∷ ((other ++ in_fields others) ++ tail)) ≡ 1 + spaces_in (other ++ (in_fields others ++ tail)) = ap (λ (b : List ℕ). 1 + spaces_in b) (append_assoc other (in_fields others) tail) in
    field_spaces field (32 ∷ ((other ++ in_fields others) ++ tail)) n w ∙ same ∙ omega arith

-- ---- the word

pub three_true : (a b c : Bool) → (a && b && c) ≡ true → (a ≡ true) × (b ≡ true) × (c ≡ true)
three_true true true c e = (refl, refl, e)
three_true true false c e = absurd cc
three_true false b c e = absurd cc

pub begins : (form : Form) (bytes : List ℕ) → starts_with nat_eq bytes (word_of form) ≡ true → bytes ≡ word_of form ++ drop 4 bytes
begins form.Ascii bytes e = sym (take-append-drop 4 bytes) ∙ ap (λ (w : List ℕ). w ++ drop 4 bytes) (sym ((bytes_eq-Decides (word_of form.Ascii) (take 4 bytes)).0 e))
begins form.Binary bytes e = sym (take-append-drop 4 bytes) ∙ ap (λ (w : List ℕ). w ++ drop 4 bytes) (sym ((bytes_eq-Decides (word_of form.Binary) (take 4 bytes)).0 e))

pub word_spaces : (form : Form) (bytes : List ℕ) → spaces_in (word_of form ++ bytes) ≡ suc (spaces_in bytes)
word_spaces form.Ascii bytes = omega arith
word_spaces form.Binary bytes = omega arith

pub word_begins : (form : Form) (bytes : List ℕ) → starts_with nat_eq (word_of form ++ bytes) (word_of form) ≡ true
word_begins form.Ascii bytes = refl
word_begins form.Binary bytes = refl

pub word_behind : (form : Form) (bytes : List ℕ) → drop 4 (word_of form ++ bytes) ≡ bytes
word_behind form.Ascii bytes = refl
word_behind form.Binary bytes = refl

word_some : (form : Form) (bytes : List ℕ) → 0 < length (word_of form ++ bytes)
word_some form.Ascii bytes = omega arith
word_some form.Binary bytes = omega arith

-- ---- the whole line

-- What a header says of the first line.
pub record HeadAt (form : Form) (header : Header) (bytes rest : List ℕ) : Type 0 where
  pub line : List ℕ
  pub is : IsHeadLine form header.variables header.inputs header.outputs header.ands line
  pub at : LineAt line bytes rest
  pub limit : header.variables ≤ AIG_LIMIT
  pub fits : fits_form form header ≡ true

header_of : ℕ → ℕ → ℕ → ℕ → Header
header_of variables inputs outputs ands = record { variables = variables; inputs = inputs; outputs = outputs; ands = ands }

head_pair : Header → List ℕ → Header × List ℕ
head_pair header rest = (header, rest)

fewer : (n k : ℕ) → nat_le 5 n ≡ true → nat_le n 9 ≡ true → n ≡ suc k → (z : ℕ) × (k ≡ suc (suc (suc (suc z)))) × (n - 5 ≡ z) × (z ≤ 4)
fewer n k low high is =
    let l : 5 ≤ n = leb-true 5 n low in
    let h : n ≤ 9 = leb-true n 9 high in
    (n - 5, omega arith, refl, omega arith)

pub limited : (bytes : List ℕ) (x : ℕ × List ℕ) → variables_at bytes ≡ given x → (field_at bytes ≡ given x) × (x.0 ≤ AIG_LIMIT)
limited bytes x e =
    let field = bind_ok (field_at bytes) (λ n. cond (nat_lt AIG_LIMIT n.0) (Err (fault (why.Limit n.0) bytes)) (Ok (n.0, n.1))) x e in
    let limit = unless_ok (nat_lt AIG_LIMIT field.0.0) (fault (why.Limit field.0.0) bytes) (Ok (field.0.0, field.0.1)) x field.2 in
    let same : field.0 ≡ x = same_value field.0 x limit.1 in
    let le : field.0.0 ≤ AIG_LIMIT = ltb-false AIG_LIMIT field.0.0 limit.0 in
    (field.1 ∙ ap given same, subst (λ (y : ℕ × List ℕ). y.0 ≤ AIG_LIMIT) same le)

pub no_latches : (bytes rest : List ℕ) → latches_at bytes ≡ given rest → field_at bytes ≡ given (0, rest)
no_latches bytes rest e =
    let field = bind_ok (field_at bytes) (λ x. cond (x.0 == 0) (Ok x.1) (Err (fault why.Latches bytes))) rest e in
    let none = when_ok (field.0.0 == 0) (fault why.Latches bytes) (Ok field.0.1) rest field.2 in
    let zero_is : field.0.0 ≡ 0 = eqb-true field.0.0 0 none.0 in
    let behind : field.0.1 ≡ rest = same_value field.0.1 rest none.1 in
    field.1 ∙ ap (λ (m : ℕ). given (m, field.0.1)) zero_is ∙ ap (λ (r : List ℕ). given (0, r)) behind

-- the five numbers and the further ones, as they stand
all_parts : (m i l o a : List ℕ) (others : List (List ℕ)) (tail : List ℕ) → (m ++ in_fields (i ∷ l ∷ o ∷ a ∷ others)) ++ tail ≡ m ++ 32 ∷ (i ++ 32 ∷ (l ++ 32 ∷ (o ++ 32 ∷ (a ++ (in_fields others ++ tail)))))
all_parts m i l o a others tail =
    append_assoc m (in_fields (i ∷ l ∷ o ∷ a ∷ others)) tail
    ∙ ap (λ (b : List ℕ). m ++ 32 ∷ b) (append_assoc i (in_fields (l ∷ o ∷ a ∷ others)) tail
    ∙ ap (λ (b : List ℕ). i ++ 32 ∷ b) (append_assoc l (in_fields (o ∷ a ∷ others)) tail
    ∙ ap (λ (b : List ℕ). l ++ 32 ∷ b) (append_assoc o (in_fields (a ∷ others)) tail
    ∙ ap (λ (b : List ℕ). o ++ 32 ∷ b) (append_assoc a (in_fields others) tail))))

-- the line of five numbers and the further ones
pub line_made : (form : Form) (bytes b1 b2 b3 b4 b5 rest : List ℕ) (variables inputs outputs ands z : ℕ) → bytes ≡ word_of form ++ b1 → Spaced b1 variables (suc (suc (suc z))) b2 → Spaced b2 inputs (suc (suc z)) b3 → Spaced b3 0 (suc z) b4 → Spaced b4 outputs z b5
    → Further b5 ands z rest → z ≤ 4 → (line : List ℕ) × IsHeadLine form variables inputs outputs ands line × LineAt line bytes rest
line_made form bytes b1 b2 b3 b4 b5 rest variables inputs outputs ands z word sm si sl so more le = (
  word_of form ++ numbers,
  record {
    m = sm.field;
    i = si.field;
    l = sl.field;
    o = so.field;
    a = more.field;
    further = more.further;
    line_is = sym (append_assoc (word_of form) sm.field (in_fields (si.field ∷ sl.field ∷ so.field ∷ more.field ∷ more.further)));
    m_writes = sm.writes;
    i_writes = si.writes;
    l_writes = sl.writes;
    o_writes = so.writes;
    a_writes = more.writes;
    few = (let many = more.many in omega arith);
    zeros = more.zeros;
  },
  record { tail = more.tail; parts = word ∙ ap (λ (b : List ℕ). word_of form ++ b) (parts ∙ sym (all_parts sm.field si.field sl.field so.field more.field more.further more.tail)) ∙ sym (append_assoc (word_of form) numbers more.tail); ends = more.ends; some = word_some form numbers },
) where
  numbers : List ℕ
  numbers = sm.field ++ in_fields (si.field ∷ sl.field ∷ so.field ∷ more.field ∷ more.further)

  parts : b1 ≡ sm.field ++ 32 ∷ (si.field ++ 32 ∷ (sl.field ++ 32 ∷ (so.field ++ 32 ∷ (more.field ++ (in_fields more.further ++ more.tail)))))
  parts = sm.parts ∙ ap (λ (b : List ℕ). sm.field ++ 32 ∷ b) (si.parts ∙ ap (λ (b : List ℕ). si.field ++ 32 ∷ b) (sl.parts ∙ ap (λ (b : List ℕ). sl.field ++ 32 ∷ b) (so.parts ∙ ap (λ (b : List ℕ). so.field ++ 32 ∷ b) more.parts)))

pub head_read : (form : Form) (bytes : List ℕ) (header : Header) (rest : List ℕ) → header_at form bytes ≡ given (header, rest) → HeadAt form header bytes rest
unfolding header_at counts_at head_pair header_of
head_read form bytes header rest e =
    let variables = bind_ok (cond (has_head form bytes) (variables_at (drop 4 bytes)) (Err (fault why.Header bytes))) (λ variables. counts_at variables.0 variables.1 >>= λ counts. zeros_at (spaces_in bytes - 5) counts.1 >>= λ behind.
    cond (fits_form form counts.0) (Ok (counts.0, behind)) (Err (fault why.Header bytes))) (head_pair header rest) e in
    let counts = bind_ok (counts_at variables.0.0 variables.0.1) (λ counts. zeros_at (spaces_in bytes - 5) counts.1 >>= λ behind.
    cond (fits_form form counts.0) (Ok (counts.0, behind)) (Err (fault why.Header bytes))) (head_pair header rest) variables.2 in
    let behind = bind_ok (zeros_at (spaces_in bytes - 5) counts.0.1) (λ behind. cond (fits_form form counts.0.0) (Ok (counts.0.0, behind)) (Err (fault why.Header bytes))) (head_pair header rest) counts.2 in
    let fits = when_ok (fits_form form counts.0.0) (fault why.Header bytes) (Ok (head_pair counts.0.0 behind.0)) (head_pair header rest) behind.2 in
    let head = when_ok (has_head form bytes) (fault why.Header bytes) (variables_at (drop 4 bytes)) variables.0 variables.1 in
    let tests = three_true (starts_with nat_eq bytes (word_of form)) (nat_le 5 (spaces_in bytes)) (nat_le (spaces_in bytes) 9) head.0 in
    let word = begins form bytes tests.0 in
    let spaces : spaces_in bytes ≡ suc (spaces_in (drop 4 bytes)) = ap spaces_in word ∙ word_spaces form (drop 4 bytes) in
    let many = fewer (spaces_in bytes) (spaces_in (drop 4 bytes)) tests.1 tests.2 spaces in
    let m = limited (drop 4 bytes) variables.0 head.1 in
    let inputs = bind_ok (field_at variables.0.1) (λ inputs. latches_at inputs.1 >>= λ r. field_at r >>= λ outputs. field_at outputs.1 >>= λ ands. Ok (head_pair (header_of variables.0.0 inputs.0 outputs.0 ands.0) ands.1)) counts.0 counts.1 in
    let latches = bind_ok (latches_at inputs.0.1) (λ r. field_at r >>= λ outputs. field_at outputs.1 >>= λ ands. Ok (head_pair (header_of variables.0.0 inputs.0.0 outputs.0 ands.0) ands.1)) counts.0 inputs.2 in
    let outputs = bind_ok (field_at latches.0) (λ outputs. field_at outputs.1 >>= λ ands. Ok (head_pair (header_of variables.0.0 inputs.0.0 outputs.0 ands.0) ands.1)) counts.0 latches.2 in
    let ands = bind_ok (field_at outputs.0.1) (λ ands. Ok (head_pair (header_of variables.0.0 inputs.0.0 outputs.0.0 ands.0) ands.1)) counts.0 outputs.2 in
    let made : Header = header_of variables.0.0 inputs.0.0 outputs.0.0 ands.0.0 in
    let counted = same_value (head_pair made ands.0.1) counts.0 ands.2 in
    let counted_header : made ≡ counts.0.0 = ap (λ (p : Header × List ℕ). p.0) counted in
    let counted_rest : ands.0.1 ≡ counts.0.1 = ap (λ (p : Header × List ℕ). p.1) counted in
    let final = same_value (head_pair counts.0.0 behind.0) (head_pair header rest) fits.1 in
    let header_is : made ≡ header = counted_header ∙ ap (λ (p : Header × List ℕ). p.0) final in
    let rest_is : behind.0 ≡ rest = ap (λ (p : Header × List ℕ). p.1) final in
    let sm = spaced (drop 4 bytes) variables.0.0 (suc (suc (suc many.0))) variables.0.1 m.0 many.1 in
    let si = spaced variables.0.1 inputs.0.0 (suc (suc many.0)) inputs.0.1 inputs.1 sm.left in
    let sl = spaced inputs.0.1 0 (suc many.0) latches.0 (no_latches inputs.0.1 latches.0 latches.1) si.left in
    let so = spaced latches.0 outputs.0.0 many.0 outputs.0.1 outputs.1 sl.left in
    let zeros : zeros_at many.0 ands.0.1 ≡ given rest = ap (λ (r : List ℕ). zeros_at many.0 r) counted_rest ∙ ap (λ (n : ℕ). zeros_at n counts.0.1) (sym many.2) ∙ behind.1 ∙ ap given rest_is in
    let more = further many.0 outputs.0.1 ands.0.0 ands.0.1 rest ands.1 zeros so.left in
    let made_line = line_made form bytes (drop 4 bytes) variables.0.1 inputs.0.1 latches.0 outputs.0.1 rest variables.0.0 inputs.0.0 outputs.0.0 ands.0.0 many.0 word sm si sl so more many.3 in
    subst (λ (h : Header). HeadAt form h bytes rest) header_is (record { line = made_line.0; is = made_line.1; at = made_line.2; limit = m.1; fits = ap (fits_form form) counted_header ∙ fits.0 })

few_spaces : (n z : ℕ) → n ≡ suc (suc (suc (suc (suc z)))) → z ≤ 4 → (nat_le 5 n ≡ true) × (nat_le n 9 ≡ true) × (n - 5 ≡ z)
few_spaces n z is le = (le-leb 5 n (omega arith), le-leb n 9 (omega arith), omega arith)

-- a line that is written is read, up to the rule on M
pub head_tested : (form : Form) (bytes : List ℕ) (header : Header) (rest line : List ℕ) → IsHeadLine form header.variables header.inputs header.outputs header.ands line → LineAt line bytes rest → header.variables ≤ AIG_LIMIT
    → header_at form bytes ≡ cond (fits_form form header) (Ok (header, rest)) (Err (fault why.Header bytes))
unfolding header_at counts_at
head_tested form bytes header rest line h at limit =
    let f = further_again h.a header.ands h.further at.tail rest h.a_writes h.zeros at.ends in
    let ra = h.a ++ (in_fields h.further ++ at.tail) in
    let ro = h.o ++ 32 ∷ ra in
    let rl = h.l ++ 32 ∷ ro in
    let ri = h.i ++ 32 ∷ rl in
    let rm = h.m ++ 32 ∷ ri in
    let whole : bytes ≡ word_of form ++ rm =
    at.parts ∙ ap (λ (b : List ℕ). b ++ at.tail) (h.line_is ∙ append_assoc (word_of form) h.m (in_fields (h.i ∷ h.l ∷ h.o ∷ h.a ∷ h.further))) ∙ append_assoc (word_of form) (h.m ++ in_fields (h.i ∷ h.l ∷ h.o ∷ h.a ∷ h.further)) at.tail
    ∙ ap (λ (b : List ℕ). word_of form ++ b) (all_parts h.m h.i h.l h.o h.a h.further at.tail) in
    let count_a : spaces_in ra ≡ length h.further = further_spaces h.a header.ands h.further at.tail rest h.a_writes h.zeros at.ends in
    let count_o : spaces_in ro ≡ 1 + spaces_in ra = field_spaces h.o (32 ∷ ra) header.outputs h.o_writes in
    let count_l : spaces_in rl ≡ 1 + spaces_in ro = field_spaces h.l (32 ∷ ro) 0 h.l_writes in
    let count_i : spaces_in ri ≡ 1 + spaces_in rl = field_spaces h.i (32 ∷ rl) header.inputs h.i_writes in
    let count_m : spaces_in rm ≡ 1 + spaces_in ri = field_spaces h.m (32 ∷ ri) header.variables h.m_writes in
    let count : spaces_in (word_of form ++ rm) ≡ suc (spaces_in rm) = word_spaces form rm in
    let few = few_spaces (spaces_in (word_of form ++ rm)) (length h.further) (omega arith) h.few in
    let m : field_at rm ≡ given (header.variables, ri) = space_behind h.m ri header.variables h.m_writes in
    let i : field_at ri ≡ given (header.inputs, rl) = space_behind h.i rl header.inputs h.i_writes in
    let l : field_at rl ≡ given (0, ro) = space_behind h.l ro 0 h.l_writes in
    let o : field_at ro ≡ given (header.outputs, ra) = space_behind h.o ra header.outputs h.o_writes in
    let below : nat_lt AIG_LIMIT header.variables ≡ false = le-ltb AIG_LIMIT header.variables limit in
    rw whole (rw (word_begins form rm, few.0, few.1, word_behind form rm, m, below, i, l, o, f.first, few.2, f.zeros) refl)

pub head_written : (form : Form) (bytes : List ℕ) (header : Header) (rest line : List ℕ) → IsHeadLine form header.variables header.inputs header.outputs header.ands line → LineAt line bytes rest → header.variables ≤ AIG_LIMIT → fits_form form header ≡ true
    → header_at form bytes ≡ given (header, rest)
head_written form bytes header rest line h at limit fits = head_tested form bytes header rest line h at limit ∙ rw fits refl
