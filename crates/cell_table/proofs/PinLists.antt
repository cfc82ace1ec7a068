-- Lists of names as a program holds them, and as the definitions see them.
use Rattle.std.proofs.Common.{◌≡◌, ◌∙◌, ◌&&◌, ◌||◌, ◌-◌, ℕ, ◌<◌, Bool, true, false, not, sym, refl, ap, arith, List, [], ◌∷◌, map, length, drop, take, get_or}
use Rattle.std.specs.Borrow.{Bor}
use Rattle.std.specs.List.{list_all, list_any}
use Rattle.std.specs.Str.{bytes_eq}
use Rattle.std.proofs.lemmas.List.{take_all}
use Rattle.std.proofs.lemmas.List.Folds.{list_all-map}
use Rattle.table_fields.specs.Names.{is_plain_name}
use Rattle.cell_table.specs.Kinds.{are_distinct, are_pins}

pub all_plain : (names : List (Bor (List ℕ))) (plain : Bool) → plain ≡ list_all (λ n. is_plain_name n.now) names → plain ≡ list_all is_plain_name (map (λ n. n.now) names)
all_plain names plain is = is ∙ sym (list_all-map is_plain_name (λ (n : Bor (List ℕ)). n.now) names)

pub pins_are : (names : List (Bor (List ℕ))) (plain distinct : Bool) → plain ≡ list_all (λ n. is_plain_name n.now) names → plain ≡ true
    → distinct ≡ are_distinct (map (λ n. n.now) names) → distinct ≡ are_pins (map (λ n. n.now) names)
pins_are names plain distinct is yes_plain are =
    are ∙ sym (ap (λ b. b && are_distinct (map (λ (n : Bor (List ℕ)). n.now) names)) (sym (all_plain names plain is) ∙ yes_plain))

pub no_pins : (names : List (Bor (List ℕ))) (plain : Bool) → plain ≡ list_all (λ n. is_plain_name n.now) names → plain ≡ false → plain ≡ are_pins (map (λ n. n.now) names)
no_pins names plain is no_plain =
    no_plain ∙ sym (ap (λ b. b && are_distinct (map (λ (n : Bor (List ℕ)). n.now) names)) (sym (all_plain names plain is) ∙ no_plain))

any_map : (p : List ℕ → Bool) (names : List (Bor (List ℕ))) → list_any p (map (λ n. n.now) names) ≡ list_any (λ n. p n.now) names
any_map p [] = refl
any_map p (n ∷ ns) = ap (λ b. p n.now || b) (any_map p ns)

-- what stands for a text past the end of a list
abbrev pub nowhere : Bor (List ℕ)
nowhere = record { ref_ptr = (0, 0); now = [] }

rest_of : (n : Bor (List ℕ)) (ns : List (Bor (List ℕ))) → take (length (n ∷ ns) - 1) ns ≡ ns
rest_of n ns = take_all (length (n ∷ ns) - 1) ns (omega arith)

-- the step of the test that no name stands twice
pub distinct_later : (names : List (Bor (List ℕ))) (found rest : Bool) → 0 < length names
    → found ≡ list_any (λ n. bytes_eq (get_or names 0 nowhere).now n.now) (take (length names - 1) (drop 1 names)) → found ≡ false
    → rest ≡ are_distinct (map (λ n. n.now) (take (length names - 1) (drop 1 names))) → rest ≡ are_distinct (map (λ n. n.now) names)
distinct_later [] found rest some is no_such later = absurd (omega arith)
distinct_later (n ∷ ns) found rest some is no_such later =
    let none : list_any (bytes_eq n.now) (map (λ (m : Bor (List ℕ)). m.now) ns) ≡ false =
    any_map (bytes_eq n.now) ns ∙ (sym (ap (list_any (λ (m : Bor (List ℕ)). bytes_eq n.now m.now)) (rest_of n ns)) ∙ (sym is ∙ no_such)) in
    later ∙ (ap (λ (ms : List (Bor (List ℕ))). are_distinct (map (λ m. m.now) ms)) (rest_of n ns)
    ∙ sym (ap (λ b. not b && are_distinct (map (λ (m : Bor (List ℕ)). m.now) ns)) none))

pub not_distinct : (names : List (Bor (List ℕ))) (found : Bool) → 0 < length names
    → found ≡ list_any (λ n. bytes_eq (get_or names 0 nowhere).now n.now) (take (length names - 1) (drop 1 names)) → found ≡ true
    → false ≡ are_distinct (map (λ n. n.now) names)
not_distinct [] found some is such = absurd (omega arith)
not_distinct (n ∷ ns) found some is such =
    let there : list_any (bytes_eq n.now) (map (λ (m : Bor (List ℕ)). m.now) ns) ≡ true =
    any_map (bytes_eq n.now) ns ∙ (sym (ap (list_any (λ (m : Bor (List ℕ)). bytes_eq n.now m.now)) (rest_of n ns)) ∙ (sym is ∙ such)) in
    sym (ap (λ b. not b && are_distinct (map (λ (m : Bor (List ℕ)). m.now) ns)) there)

pub none_distinct : (names : List (Bor (List ℕ))) → length names ≡ 0 → true ≡ are_distinct (map (λ n. n.now) names)
none_distinct [] none = refl
none_distinct (n ∷ ns) none = absurd (omega arith)
