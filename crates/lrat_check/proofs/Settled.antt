-- What follows of a run over two files that the folder tells.
use Rattle.std.proofs.Common.{◌≡◌, ◌∙◌, ◌<◌, ◌≤◌, ℕ, false, refl, sym, ap, subst, arith, List, [], ◌∷◌, length, inl, inr, Option, Some, None, Result, Ok, Err}
use Rattle.std.specs.Prelude.{◌≢◌, ◌⊎◌, nat_lt, suc}
use Rattle.std.proofs.lemmas.Bool.{lt-ltb}
use Rattle.std.proofs.lemmas.Bool.Decides.{leb_tells}
use Rattle.rsfq_ids.specs.declared.circuit.Cnf.{Cnf}
use Rattle.rsfq_outside.specs.declared.fault.CallKind.TheVariants.{Read}
use Rattle.rsfq_outside.specs.declared.status.Status.{Status}
use Rattle.rsfq_outside.specs.declared.status.Status.TheVariants.{Accepted, Refused, Fault, Memory}
use Rattle.rsfq_outside.specs.Answers.{ExactlyWhere, FaultDue}
use Rattle.rsfq_outside.specs.Reads.{long_line, IsWholeFile, IsTooLong}
use Rattle.rsfq_outside.specs.Told.{Files, told_content, Grows}
use Rattle.proof_arena.specs.Laws.{ReadingsAreSound, DenialsAreSound}
use Rattle.dimacs_text.specs.Reading.{reading}
use Rattle.dimacs_text.specs.declared.fault.TextFault.{TextFault}
use Rattle.lrat_check.specs.Check.{text_fault}
use Rattle.lrat_check.specs.declared.fault.LratFault.{LratFault}
use Rattle.lrat_check.specs.Report.{Verdict, verdict_on_proof, verdict_on_cnf, verdict_of}
use Rattle.lrat_check.specs.Run.{most_bytes, Asks, IsOwnRead, HasFaultCause, FolderRun, SinkRun, IsDue, IsFirst, IsReplied, Runs, IfTold, reply_of, IsTheReply, IsVerified, IsRefuted}
use Rattle.lrat_check.proofs.Refutes.{refutes}

-- a run that came to its end: what was due stands whole
record IsWhole (folder : FolderRun) (words : List (List ℕ)) (status : Status) (sink : SinkRun) : Type 0 where
  pub text : List ℕ
  pub due : IsDue folder words status text
  pub grown : Grows sink.before sink.now text

whole_run : (folder : FolderRun) (words : List (List ℕ)) (status : Status) (sink : SinkRun) → Runs folder words status sink → status ≢ Memory → status ≢ Fault → IsWhole folder words status sink
whole_run folder words status sink (inl memory) m f = absurd (m memory.0)
whole_run folder words status sink (inr (due, text, is, inl (same, grown))) m f = record { text = text; due = rw same is; grown = grown }
whole_run folder words status sink (inr (due, text, is, inr (fault, rose, part))) m f = absurd (f fault)

two_same : (a b c d : List ℕ) → ◌≡◌ {A = Option (List (List ℕ))} (Some (a ∷ b ∷ [])) (Some (c ∷ d ∷ [])) → (a ≡ c) × (b ≡ d)
two_same a b c d e = (cc, cc)

too_long : (told : Option Files) (name bytes : List ℕ) → told_content told name ≡ Some bytes → IsTooLong told name most_bytes → most_bytes < length bytes
too_long told name bytes is long = rw is at long

whole_file : (told : Option Files) (name content bytes : List ℕ) → told_content told name ≡ Some content → IsWholeFile told name most_bytes bytes → (bytes ≡ content) × (length bytes ≤ most_bytes)
whole_file told name content bytes is whole = rw is at whole

not_below : (a b : ℕ) → b ≤ a → nat_lt a b ≡ false
not_below a b le = elim (leb_tells (suc a) b) [ inl t ↦ let more = t.1 in absurd (omega arith) | inr t ↦ t.0 ]

first_long : (cnf proof f p : List ℕ) → most_bytes < length f → reply_of cnf proof f p ≡ record { status = Refused; text = long_line cnf }
first_long cnf proof f p long = rw (lt-ltb most_bytes (length f) long) refl

second_long : (cnf proof f p : List ℕ) → length f ≤ most_bytes → most_bytes < length p → reply_of cnf proof f p ≡ record { status = Refused; text = long_line proof }
second_long cnf proof f p fits long = rw (not_below most_bytes (length f) fits, lt-ltb most_bytes (length p) long) refl

both_fit : (cnf proof f p : List ℕ) → length f ≤ most_bytes → length p ≤ most_bytes → reply_of cnf proof f p ≡ verdict_of f p
both_fit cnf proof f p fits also = rw (not_below most_bytes (length f) fits, not_below most_bytes (length p) also) refl

as_verdict : (status given : Status) (text line : List ℕ) → status ≡ given → text ≡ line → ◌≡◌ {A = Verdict} (record { status = given; text = line }) (record { status = status; text = text })
as_verdict status given text line s t = cc

second_due : (folder : FolderRun) (cnf proof f p bytes : List ℕ) (status : Status) (text : List ℕ) → told_content folder.told proof ≡ Some p → status ≢ Fault → bytes ≡ f → length bytes ≤ most_bytes
    → IsReplied folder proof bytes status text → reply_of cnf proof f p ≡ record { status = status; text = text }
second_due folder cnf proof f p bytes status text told not_fault same fits (inl unread) = absurd (not_fault unread.answer)
second_due folder cnf proof f p bytes status text told not_fault same fits (inr (inl long)) =
    second_long cnf proof f p (subst (λ (b : List ℕ). length b ≤ most_bytes) same fits) (too_long folder.told proof p told long.long) ∙ as_verdict status Refused text (long_line proof) long.answer long.printed
second_due folder cnf proof f p bytes status text told not_fault same fits (inr (inr answered)) =
    let whole = whole_file folder.told proof p answered.proof told answered.whole in
    both_fit cnf proof f p (subst (λ (b : List ℕ). length b ≤ most_bytes) same fits) (subst (λ (b : List ℕ). length b ≤ most_bytes) whole.0 whole.1)
    ∙ (ap (λ (b : List ℕ). verdict_of b p) (sym same) ∙ (ap (verdict_of bytes) (sym whole.0) ∙ answered.verdict))

first_due : (folder : FolderRun) (cnf proof f p : List ℕ) (status : Status) (text : List ℕ) → told_content folder.told cnf ≡ Some f → told_content folder.told proof ≡ Some p → status ≢ Fault
    → IsFirst folder cnf proof status text → reply_of cnf proof f p ≡ record { status = status; text = text }
first_due folder cnf proof f p status text told also not_fault (inl unread) = absurd (not_fault unread.answer)
first_due folder cnf proof f p status text told also not_fault (inr (inl long)) =
    first_long cnf proof f p (too_long folder.told cnf f told long.long) ∙ as_verdict status Refused text (long_line cnf) long.answer long.printed
first_due folder cnf proof f p status text told also not_fault (inr (inr onward)) =
    let whole = whole_file folder.told cnf f onward.cnf told onward.whole in
    second_due folder cnf proof f p onward.cnf status text also not_fault whole.0 whole.1 onward.reply

due_reply : (folder : FolderRun) (words : List (List ℕ)) (cnf proof f p : List ℕ) (status : Status) (text : List ℕ) → Asks words cnf proof → told_content folder.told cnf ≡ Some f
    → told_content folder.told proof ≡ Some p → status ≢ Fault → IsDue folder words status text → reply_of cnf proof f p ≡ record { status = status; text = text }
due_reply folder words cnf proof f p status text asks told also not_fault (inl usage) = absurd (usage.nothing cnf proof asks)
due_reply folder words cnf proof f p status text asks told also not_fault (inr (other, another, at, first)) =
    let same = two_same other another cnf proof (sym at ∙ asks) in
    first_due folder cnf proof f p status text told also not_fault (rw (same.0, same.1) at first)

pub the_reply : (folder : FolderRun) (words : List (List ℕ)) (status : Status) (sink : SinkRun) → Runs folder words status sink
    → IfTold folder.told words (λ cnf proof f p. status ≢ Memory → status ≢ Fault → IsTheReply (reply_of cnf proof f p) status sink)
the_reply folder words status sink runs cnf proof f p asks told also m not_fault =
    let run = whole_run folder words status sink runs m not_fault in
    let reply = due_reply folder words cnf proof f p status run.text asks told also not_fault run.due in
    (sym (ap (λ (v : Verdict). v.status) reply), subst (Grows sink.before sink.now) (sym (ap (λ (v : Verdict). v.text) reply)) run.grown)

-- ---- what Accepted says

on_proof : (formula : Cnf) (f p : List ℕ) (fault : Option LratFault) → length f ≤ most_bytes → length p ≤ most_bytes → reading f ≡ Ok formula → text_fault formula p ≡ fault
    → (verdict_on_proof fault).status ≡ Accepted → IsVerified f p
on_proof formula f p None fits also reads holds is = record { formula_fits = fits; proof_fits = also; formula = formula; reads = reads; holds = holds }
on_proof formula f p (Some fault) fits also reads holds is = absurd (cc)

on_cnf : (f p : List ℕ) (read : Result Cnf TextFault) → length f ≤ most_bytes → length p ≤ most_bytes → reading f ≡ read → (verdict_on_cnf p read).status ≡ Accepted → IsVerified f p
on_cnf f p (Ok formula) fits also reads is = on_proof formula f p (text_fault formula p) fits also reads refl is
on_cnf f p (Err fault) fits also reads is = absurd (cc)

no_refusal : Refused ≡ Accepted → ⊥
no_refusal e = cc

verified_by : (cnf proof f p : List ℕ) → (reply_of cnf proof f p).status ≡ Accepted → IsVerified f p
verified_by cnf proof f p is = elim (leb_tells (suc most_bytes) (length f)) [
  | inl t ↦ absurd (no_refusal (sym (ap (λ (v : Verdict). v.status) (first_long cnf proof f p t.1)) ∙ is))
  | inr t ↦ elim (leb_tells (suc most_bytes) (length p)) [
    | inl u ↦ absurd (no_refusal (sym (ap (λ (v : Verdict). v.status) (second_long cnf proof f p (let le = t.1 in omega arith) u.1)) ∙ is))
    | inr u ↦
        let fits : length f ≤ most_bytes = let le = t.1 in omega arith in
        let also : length p ≤ most_bytes = let le = u.1 in omega arith in
        on_cnf f p (reading f) fits also refl (sym (ap (λ (v : Verdict). v.status) (both_fit cnf proof f p fits also)) ∙ is)
  ]
]

accepted_reply : (cnf proof f p : List ℕ) → IsVerified f p → (reply_of cnf proof f p).status ≡ Accepted
accepted_reply cnf proof f p is =
    ap (λ (v : Verdict). v.status) (both_fit cnf proof f p is.formula_fits is.proof_fits ∙ (ap (verdict_on_cnf p) is.reads ∙ ap verdict_on_proof is.holds))

pub accepted_exact : (folder : FolderRun) (words : List (List ℕ)) (status : Status) (sink : SinkRun) → Runs folder words status sink
    → IfTold folder.told words (λ cnf proof f p. ExactlyWhere (IsVerified f p) Accepted status)
accepted_exact folder words status sink runs cnf proof f p asks told also = record {
  only = λ is. verified_by cnf proof f p (sym (the_reply folder words status sink runs cnf proof f p asks told also (λ e. cc) (λ e. cc)).0 ∙ is);
  comes = λ verified m not_fault. (the_reply folder words status sink runs cnf proof f p asks told also m not_fault).0 ∙ accepted_reply cnf proof f p verified;
}

pub refuted_by : ReadingsAreSound → DenialsAreSound → (folder : FolderRun) (words : List (List ℕ)) (status : Status) (sink : SinkRun) → Runs folder words status sink
    → IfTold folder.told words (λ cnf proof f p. status ≡ Accepted → IsRefuted f)
refuted_by readings denials folder words status sink runs cnf proof f p asks told also is =
    let verified = (accepted_exact folder words status sink runs cnf proof f p asks told also).only is in
    (verified.formula, verified.reads, refutes readings denials verified.formula p verified.holds)

-- ---- what Fault says

plain_proof : (fault : Option LratFault) → (verdict_on_proof fault).status ≡ Fault → ⊥
plain_proof None is = cc
plain_proof (Some fault) is = cc

plain_cnf : (p : List ℕ) (read : Result Cnf TextFault) → (verdict_on_cnf p read).status ≡ Fault → ⊥
plain_cnf p (Ok formula) is = plain_proof (text_fault formula p) is
plain_cnf p (Err fault) is = cc

own_read : (folder : FolderRun) (words : List (List ℕ)) (cnf proof name : List ℕ) (line : List ℕ) → Asks words cnf proof → (name ≡ cnf) ⊎ (name ≡ proof)
    → FaultDue folder.before folder.now folder.blamed (λ call. call ≡ (Read, name)) line → FaultDue folder.before folder.now folder.blamed (IsOwnRead words) line
own_read folder words cnf proof name line asks (inl same) due = record {
  rose = due.rose;
  blame = (due.blame.0, due.blame.1, (cnf, proof, asks, inl (rw same at due.blame.2)), due.blame.3);
}
own_read folder words cnf proof name line asks (inr same) due = record {
  rose = due.rose;
  blame = (due.blame.0, due.blame.1, (cnf, proof, asks, inr (rw same at due.blame.2)), due.blame.3);
}

second_fault : (folder : FolderRun) (words : List (List ℕ)) (cnf proof bytes : List ℕ) (status : Status) (text : List ℕ) → Asks words cnf proof → status ≡ Fault
    → IsReplied folder proof bytes status text → FaultDue folder.before folder.now folder.blamed (IsOwnRead words) text
second_fault folder words cnf proof bytes status text asks is (inl unread) = own_read folder words cnf proof proof text asks (inr refl) unread.due
second_fault folder words cnf proof bytes status text asks is (inr (inl long)) = absurd (let answer = long.answer in cc)
second_fault folder words cnf proof bytes status text asks is (inr (inr answered)) =
    absurd (plain_cnf answered.proof (reading bytes) (ap (λ (v : Verdict). v.status) answered.verdict ∙ is))

due_fault : (folder : FolderRun) (words : List (List ℕ)) (status : Status) (text : List ℕ) → status ≡ Fault
    → IsDue folder words status text → FaultDue folder.before folder.now folder.blamed (IsOwnRead words) text
due_fault folder words status text is (inl usage) = absurd (let answer = usage.answer in cc)
due_fault folder words status text is (inr (cnf, proof, asks, inl unread)) = own_read folder words cnf proof cnf text asks (inl refl) unread.due
due_fault folder words status text is (inr (cnf, proof, asks, inr (inl long))) = absurd (let answer = long.answer in cc)
due_fault folder words status text is (inr (cnf, proof, asks, inr (inr onward))) = second_fault folder words cnf proof onward.cnf status text asks is onward.reply

pub fault_cause : (folder : FolderRun) (words : List (List ℕ)) (status : Status) (sink : SinkRun) → Runs folder words status sink → status ≡ Fault → HasFaultCause folder words sink
fault_cause folder words status sink (inl memory) is = absurd (let answer = memory.0 in cc)
fault_cause folder words status sink (inr (due, text, at, inl (same, grown))) is = inr (text, due_fault folder words due text (sym same ∙ is) at, grown)
fault_cause folder words status sink (inr (due, text, at, inr (fault, rose, part))) is = inl rose
