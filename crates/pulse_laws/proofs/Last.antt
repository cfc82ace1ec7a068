-- Paths and flows taken apart at their last arc.
use Rattle.std.proofs.Common.{◌≡◌, ℕ, ◌⊎◌, ℤ, List, [], ◌∷◌, ◌++◌, refl, sym, ap, subst, inl, inr}
use Rattle.std.specs.List.{AllZip}
use Rattle.rsfq_ids.specs.declared.offence.PathArc.{PathArc}
use Rattle.rsfq_ids.specs.Path.{ArcLeads, ArcsLead}
use Rattle.rsfq_ids.specs.Design.{Design}
use Rattle.pulse_laws.specs.Flows.{GoesOn, Flows}

module _ (design : Design) where
  pub record LeadBefore (net : ℕ) (arcs : List PathArc) (last : ℕ) : Type 0 where
    pub before : List PathArc
    pub end : PathArc
    pub mid : ℕ
    pub parts : arcs ≡ before ++ end ∷ []
    pub lead : ArcsLead design net before mid
    pub on : ArcLeads design mid end last

  pub lead_last : (net : ℕ) (arcs : List PathArc) (last : ℕ) → ArcsLead design net arcs last → ((arcs ≡ []) × (net ≡ last)) ⊎ LeadBefore net arcs last
  lead_last net [] last lead = inl (refl, lead)
  lead_last net (a ∷ arcs) last (next, on, rest) = elim (lead_last next arcs last rest) [
    | inl (none, same) ↦ inr (record { before = []; end = a; mid = net; parts = ap (λ (xs : List PathArc). a ∷ xs) none; lead = refl; on = subst (λ (x : ℕ). ArcLeads design net a x) same on })
    | inr b ↦ inr (record { before = a ∷ b.before; end = b.end; mid = b.mid; parts = ap (λ (xs : List PathArc). a ∷ xs) b.parts; lead = (next, on, b.lead); on = b.on })
  ]

  pub lead_more : (net : ℕ) (arcs : List PathArc) (mid : ℕ) (a : PathArc) (last : ℕ) → ArcsLead design net arcs mid → ArcLeads design mid a last → ArcsLead design net (arcs ++ a ∷ []) last
  lead_more net [] mid a last lead on = (last, subst (λ (x : ℕ). ArcLeads design x a last) (sym lead) on, refl)
  lead_more net (b ∷ arcs) mid a last (next, first, rest) on = (next, first, lead_more next arcs mid a last rest on)

  module _ (pulses : List (List ℤ)) where
    pub record FlowBefore (net j : ℕ) (arcs : List PathArc) (ds : List ℤ) (last k : ℕ) : Type 0 where
      pub before : List PathArc
      pub end : PathArc
      pub delays : List ℤ
      pub delay : ℤ
      pub mid : ℕ
      pub place : ℕ
      pub parts : arcs ≡ before ++ end ∷ []
      pub sums : ds ≡ delays ++ delay ∷ []
      pub flow : Flows design pulses net j before delays mid place
      pub on : GoesOn design pulses end mid place last k

    pub flows_last : (net j : ℕ) (arcs : List PathArc) (ds : List ℤ) (last k : ℕ) → Flows design pulses net j arcs ds last k → ((arcs ≡ []) × (net ≡ last) × (j ≡ k)) ⊎ FlowBefore net j arcs ds last k
    flows_last net j [] [] last k flow = inl (refl, flow.0, flow.1)
    flows_last net j [] (d ∷ ds) last k flow = absurd flow
    flows_last net j (a ∷ arcs) [] last k flow = absurd flow
    flows_last net j (a ∷ arcs) (d ∷ ds) last k (next, i, on, time, rest) = elim (flows_last next i arcs ds last k rest) [
      | inl (none, same, place) ↦ inr (record {
        before = [];
        end = a;
        delays = [];
        delay = d;
        mid = net;
        place = j;
        parts = ap (λ (xs : List PathArc). a ∷ xs) none;
        sums = ap (λ (xs : List ℤ). d ∷ xs) (no_delays arcs ds next i last k none rest);
        flow = (refl, refl);
        on = subst (λ (x : ℕ). GoesOn design pulses a net j x k) same (subst (λ (x : ℕ). GoesOn design pulses a net j next x) place on);
      })
      | inr b ↦ inr (record {
        before = a ∷ b.before;
        end = b.end;
        delays = d ∷ b.delays;
        delay = b.delay;
        mid = b.mid;
        place = b.place;
        parts = ap (λ (xs : List PathArc). a ∷ xs) b.parts;
        sums = ap (λ (xs : List ℤ). d ∷ xs) b.sums;
        flow = (next, i, on, time, b.flow);
        on = b.on;
      })
    ]
      where
        no_delays : (arcs : List PathArc) (ds : List ℤ) (net j last k : ℕ) → arcs ≡ [] → Flows design pulses net j arcs ds last k → ds ≡ []
        no_delays [] [] net j last k none flow = refl
        no_delays [] (d ∷ ds) net j last k none flow = absurd flow
        no_delays (a ∷ arcs) ds net j last k none flow = cc

pub zip_split : {A B : Type 0} (R : A → B → Type 0) (xs : List A) (x : A) (ys : List B) (y : B) → AllZip R (xs ++ x ∷ []) (ys ++ y ∷ []) → AllZip R xs ys × R x y
zip_split R [] x [] y zip = (tt, zip.0)
zip_split R [] x (b ∷ []) y zip = absurd zip.1
zip_split R [] x (b ∷ c ∷ ys) y zip = absurd zip.1
zip_split R (a ∷ []) x [] y zip = absurd zip.1
zip_split R (a ∷ c ∷ xs) x [] y zip = absurd zip.1
zip_split R (a ∷ xs) x (b ∷ ys) y zip = let rest = zip_split R xs x ys y zip.1 in ((zip.0, rest.0), rest.1)
