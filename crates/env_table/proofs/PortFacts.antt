-- The port bits that a name stands for, bit by bit.
use Rattle.std.proofs.Common.{◌≡◌, ◌∙◌, ℕ, zero, suc, ◌+◌, ◌<◌, ◌==◌, Bool, true, false, cond, if◌then◌else◌, refl, ap, arith, List, [], ◌∷◌, ◌++◌, length, map, take, get_or, filter, zero-add, add-zero}
use Rattle.std.specs.List.{All, enumerate_from}
use Rattle.std.specs.Str.{bytes_eq}
use Rattle.rsfq_ids.specs.declared.id.PortId.{PortId}
use Rattle.rsfq_ids.specs.declared.circuit.PortBit.{PortBit}
use Rattle.std.proofs.lemmas.List.Elements.{All-cons, All-nil}
use Rattle.env_table.specs.Names.{bits_of, is_bit_of, places_of}

-- the bits from a place on whose names pass a test
abbrev pub places_from : (List ℕ → Bool) → ℕ → List PortBit → List PortId
places_from passes from ports = map (λ (at, port). at) (filter (λ (at, port). passes port.name) (enumerate_from from ports))

-- one more port bit
from_more : (passes : List ℕ → Bool) (from : ℕ) (ports : List PortBit) (place : ℕ) (d : PortBit) → place < length ports
    → places_from passes from (take (place + 1) ports) ≡ places_from passes from (take place ports) ++ (if passes (get_or ports place d).name then (from + place) ∷ [] else [])
from_more passes from [] place d less = absurd (omega arith)
from_more passes from (port ∷ ports) zero d less = rw add-zero (go (passes port.name))
  where
    go : (b : Bool) → map (λ (p : ℕ × PortBit). p.0) (cond b ((from, port) ∷ []) []) ≡ cond b (from ∷ []) []
    go true = refl
    go false = refl
from_more passes from (port ∷ ports) (suc place) d less =
    let more : suc place + 1 ≡ suc (place + 1) = omega arith in
    let at : from + 1 + place ≡ from + suc place = omega arith in
    let later : places_from passes (from + 1) (take (place + 1) ports) ≡ places_from passes (from + 1) (take place ports) ++ cond (passes (get_or ports place d).name) ((from + suc place) ∷ []) [] =
    from_more passes (from + 1) ports place d (omega arith)
    ∙ ap (λ n. places_from passes (from + 1) (take place ports) ++ cond (passes (get_or ports place d).name) (n ∷ []) []) at in
    ap (λ n. places_from passes from (take n (port ∷ ports))) more ∙ go (passes port.name) later
  where
    go : (b : Bool) → places_from passes (from + 1) (take (place + 1) ports) ≡ places_from passes (from + 1) (take place ports) ++ cond (passes (get_or ports place d).name) ((from + suc place) ∷ []) []
        → map (λ (p : ℕ × PortBit). p.0) (cond b ((from, port) ∷ filter (λ (p : ℕ × PortBit). passes p.1.name) (enumerate_from (from + 1) (take (place + 1) ports))) (filter (λ (p : ℕ × PortBit). passes p.1.name) (enumerate_from (from + 1) (take (place + 1) ports))))
        ≡ map (λ (p : ℕ × PortBit). p.0) (cond b ((from, port) ∷ filter (λ (p : ℕ × PortBit). passes p.1.name) (enumerate_from (from + 1) (take place ports))) (filter (λ (p : ℕ × PortBit). passes p.1.name) (enumerate_from (from + 1) (take place ports)))) ++ cond (passes (get_or ports place d).name) ((from + suc place) ∷ []) []
    go true later = ap (λ xs. from ∷ xs) later
    go false later = later

pub places_more : (passes : List ℕ → Bool) (ports : List PortBit) (place : ℕ) (d : PortBit) → place < length ports
    → places_of passes (take (place + 1) ports) ≡ places_of passes (take place ports) ++ (if passes (get_or ports place d).name then place ∷ [] else [])
unfolding places_of
places_more passes ports place d less = rw zero-add at (from_more passes 0 ports place d less)

pub places_none : (passes : List ℕ → Bool) → places_of passes [] ≡ []
unfolding places_of
places_none passes = refl

-- ---- the places are port bits

from_below : (passes : List ℕ → Bool) (from : ℕ) (ports : List PortBit) → All (λ bit. bit < from + length ports) (places_from passes from ports)
from_below passes from [] = All-nil (λ bit. bit < from + 0)
from_below passes from (port ∷ ports) = go (passes port.name) (λ k d less. let below = from_below passes (from + 1) ports k d less in omega arith)
  where
    go : (b : Bool) → All (λ bit. bit < from + suc (length ports)) (places_from passes (from + 1) ports)
        → All (λ bit. bit < from + suc (length ports)) (map (λ (p : ℕ × PortBit). p.0) (cond b ((from, port) ∷ filter (λ (p : ℕ × PortBit). passes p.1.name) (enumerate_from (from + 1) ports)) (filter (λ (p : ℕ × PortBit). passes p.1.name) (enumerate_from (from + 1) ports))))
    go true later = All-cons (λ bit. bit < from + suc (length ports)) from (places_from passes (from + 1) ports) (omega arith) later
    go false later = later

places_below : (passes : List ℕ → Bool) (ports : List PortBit) → All (λ bit. bit < length ports) (places_of passes ports)
unfolding places_of
places_below passes ports = λ k d less. let below = from_below passes 0 ports k d less in omega arith

-- the bits that a name stands for are port bits
pub bits_below : (ports : List PortBit) (name : List ℕ) → All (λ bit. bit < length ports) (bits_of ports name)
bits_below ports name = go (length (places_of (bytes_eq name) ports) == 0)
  where
    go : (b : Bool) → All (λ bit. bit < length ports) (cond b (places_of (is_bit_of name) ports) (places_of (bytes_eq name) ports))
    go true = places_below (is_bit_of name) ports
    go false = places_below (bytes_eq name) ports
