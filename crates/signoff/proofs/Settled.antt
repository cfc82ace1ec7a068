-- What follows of a run, clause by clause.
use Rattle.std.proofs.Common.{◌≡◌, subst, ◌<◌, ◌≤◌, ◌⊎◌, inl, inr, ℕ, List, length, arith}
use Rattle.std.specs.Prelude.{◌≢◌, Option, Some}
use Rattle.std.proofs.lemmas.List.Elements.{All-contains}
use Rattle.rsfq_ids.specs.Offence.{HasNoWindow}
use Rattle.rsfq_ids.specs.Design.{Design}
use Rattle.rsfq_ids.specs.declared.offence.Against.TheVariants as against
use Rattle.rsfq_ids.specs.declared.id.PortId.{PortId}
use Rattle.rsfq_ids.specs.declared.circuit.Flat.{Flat}
use Rattle.flat_form.specs.Form.{IsOfForm, IsClockPort}
use Rattle.wire_timing.specs.declared.WireDepth.{WireDepth}
use Rattle.wire_timing.specs.Wires.{IsWireDepth}
use Rattle.rsfq_outside.specs.declared.status.Status.{Status}
use Rattle.rsfq_outside.specs.declared.status.Status.TheVariants.{Accepted, Rejected, Refused, Fault, Memory}
use Rattle.rsfq_outside.specs.Causes.{Rose}
use Rattle.rsfq_outside.specs.Told.{Files, told_content, Grows}
use Rattle.rsfq_outside.specs.Answers.{ExactlyWhere}
use Rattle.rsfq_outside.specs.Reads.{long_line, IsWholeFile, IsTooLong}
use Rattle.signoff.specs.declared.words.Times.{Times}
use Rattle.signoff.specs.Words.{Asks}
use Rattle.signoff.specs.Verdict.{IsVerdict, IsSignedOff, IsJudged, IsTooDeep, IsWireCircuit, IsOfNoForm, IsShallow, IsDeep, HasWindow, timed_design}
use Rattle.signoff.specs.Run.{most_bytes, FolderRun, SinkRun, IsReplied, IsDue, Runs, IfTold, IsTooLarge, IsRefusable, HasDesign, HasReport, HasRefusal, HasHeadline}
use Rattle.signoff.proofs.Asked.{asked_once}
use Rattle.signoff.proofs.Shown.{contained_at}

-- a run that came to its end: what was due stands whole
pub record IsWhole (folder : FolderRun) (words : List (List ℕ)) (status : Status) (sink : SinkRun) : Type 0 where
  pub text : List ℕ
  pub due : IsDue folder words status text
  pub grown : Grows sink.before sink.now text

-- the three ends of a run
abbrev pub Settles : FolderRun → List (List ℕ) → Status → SinkRun → Type 0
Settles folder words status sink =
    ((status ≡ Memory) × (sink.now ≡ sink.before))
    ⊎ (((status ≡ Fault) × Rose sink.faults_before sink.faults_now) ⊎ IsWhole folder words status sink)

pub settle : (folder : FolderRun) (words : List (List ℕ)) (status : Status) (sink : SinkRun) → Runs folder words status sink → Settles folder words status sink
settle folder words status sink (inl memory) = inl memory
settle folder words status sink (inr (due, text, is, inl (same, grown))) = inr (inr (record { text = text; due = rw same is; grown = grown }))
settle folder words status sink (inr (due, text, is, inr (fault, rose, part))) = inr (inl (fault, rose))

-- The end of a run over a netlist that the folder tells: it is too long, or this is the answer to it; and the text stands.
pub record IsReplyTo (name : List ℕ) (times : Times) (netlist : List ℕ) (status : Status) (sink : SinkRun) : Type 0 where
  pub text : List ℕ
  pub grown : Grows sink.before sink.now text
  pub reply : ((status ≡ Refused) × (most_bytes < length netlist) × (text ≡ long_line name)) ⊎ ((length netlist ≤ most_bytes) × IsVerdict times netlist status text)

told_long : (told : Option Files) (name netlist : List ℕ) → told_content told name ≡ Some netlist → IsTooLong told name most_bytes → most_bytes < length netlist
told_long told name netlist is long = rw is at long

told_whole : (told : Option Files) (name netlist bytes : List ℕ) → told_content told name ≡ Some netlist → IsWholeFile told name most_bytes bytes → (bytes ≡ netlist) × (length bytes ≤ most_bytes)
told_whole told name netlist bytes is whole = rw is at whole

-- what was replied to the name and the times that were asked for, at the netlist that is told
reply_to : (folder : FolderRun) (name : List ℕ) (times : Times) (netlist : List ℕ) (status : Status) (text : List ℕ) (sink : SinkRun) → told_content folder.told name ≡ Some netlist → status ≢ Fault →
    Grows sink.before sink.now text → IsReplied folder name times status text → IsReplyTo name times netlist status sink
reply_to folder name times netlist status text sink told f grown (inl unread) = absurd (f unread.answer)
reply_to folder name times netlist status text sink told f grown (inr (inl long)) =
    record { text = text; grown = grown; reply = inl (long.answer, told_long folder.told name netlist told long.long, long.printed) }
reply_to folder name times netlist status text sink told f grown (inr (inr answered)) =
    let whole = told_whole folder.told name netlist answered.netlist told answered.whole in
    record { text = text; grown = grown; reply = inr (rw (← whole.0) whole.1, rw (← whole.0) answered.verdict) }

due_to : (folder : FolderRun) (words : List (List ℕ)) (name : List ℕ) (times : Times) (netlist : List ℕ) (status : Status) (text : List ℕ) (sink : SinkRun) → Asks words name times →
    told_content folder.told name ≡ Some netlist → status ≢ Fault → Grows sink.before sink.now text → IsDue folder words status text → IsReplyTo name times netlist status sink
due_to folder words name times netlist status text sink asks told f grown (inl usage) = absurd (usage.nothing name times asks)
due_to folder words name times netlist status text sink asks told f grown (inr (other, at, also, reply)) =
    let once = asked_once words other name at times also asks in
    reply_to folder name times netlist status text sink told f grown (rw (once.0, once.1) at reply)

run_to : (folder : FolderRun) (words : List (List ℕ)) (name : List ℕ) (times : Times) (netlist : List ℕ) (status : Status) (sink : SinkRun) → Asks words name times →
    told_content folder.told name ≡ Some netlist → status ≢ Memory → status ≢ Fault → Settles folder words status sink → IsReplyTo name times netlist status sink
run_to folder words name times netlist status sink asks told m f (inl memory) = absurd (m memory.0)
run_to folder words name times netlist status sink asks told m f (inr (inl fault)) = absurd (f fault.0)
run_to folder words name times netlist status sink asks told m f (inr (inr whole)) = due_to folder words name times netlist status whole.text sink asks told f whole.grown whole.due

-- ---- what an answer to a netlist says of it

-- the netlist is too long, and refused; or its verdict is this
abbrev pub Replies : List ℕ → Times → List ℕ → Status → List ℕ → Type 0
Replies name times netlist status text = ((status ≡ Refused) × (most_bytes < length netlist) × (text ≡ long_line name)) ⊎ ((length netlist ≤ most_bytes) × IsVerdict times netlist status text)

is_accepted : (name : List ℕ) (times : Times) (netlist : List ℕ) (status : Status) (text : List ℕ) → Replies name times netlist status text → status ≡ Accepted →
    HasDesign times netlist (λ design. HasNoWindow design × IsShallow design)
is_accepted name times netlist status text (inl long) is = let e = long.0 in absurd (cc)
is_accepted name times netlist status text (inr (fits, inl unloaded)) is = let e = unloaded.answer in absurd (cc)
is_accepted name times netlist status text (inr (fits, inr (inl formless))) is = let e = formless.answer in absurd (cc)
is_accepted name times netlist status text (inr (fits, inr (inr signed))) is = elim signed.judged [
  | inl a ↦ (fits, (signed.flat, signed.clock, signed.circuit, (a.no_window, a.shallow)))
  | inr (inl r) ↦ let e = r.answer in absurd (cc)
  | inr (inr t) ↦ let e = t.answer in absurd (cc)
]

is_rejected : (name : List ℕ) (times : Times) (netlist : List ℕ) (status : Status) (text : List ℕ) → Replies name times netlist status text → status ≡ Rejected → HasDesign times netlist HasWindow
is_rejected name times netlist status text (inl long) is = let e = long.0 in absurd (cc)
is_rejected name times netlist status text (inr (fits, inl unloaded)) is = let e = unloaded.answer in absurd (cc)
is_rejected name times netlist status text (inr (fits, inr (inl formless))) is = let e = formless.answer in absurd (cc)
is_rejected name times netlist status text (inr (fits, inr (inr signed))) is = elim signed.judged [
  | inl a ↦ let e = a.answer in absurd (cc)
  | inr (inl r) ↦ (fits, (signed.flat, signed.clock, signed.circuit, (r.pin, r.pulse, against.Strobe r.number, r.first.here.exists)))
  | inr (inr t) ↦ let e = t.answer in absurd (cc)
]

-- an output that is too deep
deep_of : (design : Design) (status : Status) (text : List ℕ) → IsTooDeep design status text → IsDeep design
deep_of design status text t =
    let line_is = All-contains (IsWireDepth design) t.depths t.first.found t.depths_are.each (contained_at t.depths t.place t.first.found t.first.there) in
    (t.first.found.output, t.first.found.depth, (t.used, line_is.depth_is), t.first.deep)

is_refused : (name : List ℕ) (times : Times) (netlist : List ℕ) (status : Status) (text : List ℕ) → Replies name times netlist status text → status ≡ Refused → IsRefusable times netlist
is_refused name times netlist status text (inl long) is = inl long.1
is_refused name times netlist status text (inr (fits, inl unloaded)) is = inr (inl (λ flat clock wires. unloaded.none flat wires.has))
is_refused name times netlist status text (inr (fits, inr (inl formless))) is = inr (inl (λ flat clock wires. formless.none (subst IsOfForm (formless.only flat wires.has) wires.form)))
is_refused name times netlist status text (inr (fits, inr (inr signed))) is = elim signed.judged [
  | inl a ↦ let e = a.answer in absurd (cc)
  | inr (inl r) ↦ let e = r.answer in absurd (cc)
  | inr (inr t) ↦ inr (inr (fits, (signed.flat, signed.clock, signed.circuit, (t.no_window, deep_of (timed_design times signed.flat signed.clock) status text t))))
]

-- a netlist with a circuit of the form is judged by its design
judged_so : (name : List ℕ) (times : Times) (netlist : List ℕ) (status : Status) (text : List ℕ) (flat : Flat) (clock : PortId) → length netlist ≤ most_bytes → IsWireCircuit netlist flat clock →
    Replies name times netlist status text → IsJudged (timed_design times flat clock) status text
judged_so name times netlist status text flat clock fits wires (inl long) = absurd (let more = long.1 in omega arith)
judged_so name times netlist status text flat clock fits wires (inr (few, inl unloaded)) = absurd (unloaded.none flat wires.has)
judged_so name times netlist status text flat clock fits wires (inr (few, inr (inl formless))) = absurd (formless.none (subst IsOfForm (formless.only flat wires.has) wires.form))
judged_so name times netlist status text flat clock fits wires (inr (few, inr (inr signed))) =
    let same = signed.only flat wires.has in
    let clocks = signed.one_clock clock (subst (λ (f : Flat). IsClockPort f clock) same wires.clock_is) in
    rw (same, clocks) signed.judged

accepted_comes : (design : Design) (status : Status) (text : List ℕ) → IsJudged design status text → HasNoWindow design → IsShallow design → status ≡ Accepted
accepted_comes design status text (inl a) none shallow = a.answer
accepted_comes design status text (inr (inl r)) none shallow = absurd (none r.pin r.pulse (against.Strobe r.number) r.first.here.exists)
accepted_comes design status text (inr (inr t)) none shallow =
    let (output, depth, is, above) = deep_of design status text t in
    absurd (let most = shallow output depth is in omega arith)

rejected_comes : (design : Design) (status : Status) (text : List ℕ) → IsJudged design status text → HasWindow design → status ≡ Rejected
rejected_comes design status text (inl a) (pin, pulse, held, exists) = absurd (a.no_window pin pulse held exists)
rejected_comes design status text (inr (inl r)) some = r.answer
rejected_comes design status text (inr (inr t)) (pin, pulse, held, exists) = absurd (t.no_window pin pulse held exists)

deep_comes : (design : Design) (status : Status) (text : List ℕ) → IsJudged design status text → HasNoWindow design → IsDeep design → status ≡ Refused
deep_comes design status text (inl a) none (output, depth, is, above) = absurd (let most = a.shallow output depth is in omega arith)
deep_comes design status text (inr (inl r)) none deep = absurd (none r.pin r.pulse (against.Strobe r.number) r.first.here.exists)
deep_comes design status text (inr (inr t)) none deep = t.answer

large_comes : (name : List ℕ) (times : Times) (netlist : List ℕ) (status : Status) (text : List ℕ) → IsTooLarge netlist → Replies name times netlist status text → status ≡ Refused
large_comes name times netlist status text more (inl long) = long.0
large_comes name times netlist status text more (inr (fits, verdict)) = absurd (omega arith)

formless_comes : (name : List ℕ) (times : Times) (netlist : List ℕ) (status : Status) (text : List ℕ) → IsOfNoForm netlist → Replies name times netlist status text → status ≡ Refused
formless_comes name times netlist status text none (inl long) = long.0
formless_comes name times netlist status text none (inr (fits, inl unloaded)) = unloaded.answer
formless_comes name times netlist status text none (inr (fits, inr (inl formless))) = formless.answer
formless_comes name times netlist status text none (inr (fits, inr (inr signed))) = absurd (none signed.flat signed.clock signed.circuit)

refused_comes : (name : List ℕ) (times : Times) (netlist : List ℕ) (status : Status) (text : List ℕ) → Replies name times netlist status text → IsRefusable times netlist → status ≡ Refused
refused_comes name times netlist status text replies (inl large) = large_comes name times netlist status text large replies
refused_comes name times netlist status text replies (inr (inl none)) = formless_comes name times netlist status text none replies
refused_comes name times netlist status text replies (inr (inr (fits, (flat, clock, wires, (none, deep))))) =
    deep_comes (timed_design times flat clock) status text (judged_so name times netlist status text flat clock fits wires replies) none deep

report_of : (name : List ℕ) (times : Times) (netlist : List ℕ) (status : Status) (text : List ℕ) → Replies name times netlist status text → (status ≡ Accepted) ⊎ (status ≡ Rejected) → IsSignedOff times netlist status text
report_of name times netlist status text (inl long) is = let e = long.0 in absurd (elim is [ inl a ↦ cc | inr r ↦ cc ])
report_of name times netlist status text (inr (fits, inl unloaded)) is = let e = unloaded.answer in absurd (elim is [ inl a ↦ cc | inr r ↦ cc ])
report_of name times netlist status text (inr (fits, inr (inl formless))) is = let e = formless.answer in absurd (elim is [ inl a ↦ cc | inr r ↦ cc ])
report_of name times netlist status text (inr (fits, inr (inr signed))) is = signed

-- a netlist that is refused and not too long has its verdict
refusal_of : (name : List ℕ) (times : Times) (netlist : List ℕ) (status : Status) (text : List ℕ) → Replies name times netlist status text → ¬ IsTooLarge netlist → IsVerdict times netlist status text
refusal_of name times netlist status text (inl long) fits = absurd (fits long.1)
refusal_of name times netlist status text (inr (few, verdict)) fits = verdict

-- an accepted netlist has its headline
headline_of : (name : List ℕ) (times : Times) (netlist : List ℕ) (status : Status) (text : List ℕ) (sink : SinkRun) → Replies name times netlist status text → Grows sink.before sink.now text → status ≡ Accepted → HasHeadline times netlist sink
headline_of name times netlist status text sink (inl long) grown is = let e = long.0 in absurd (cc)
headline_of name times netlist status text sink (inr (fits, inl unloaded)) grown is = let e = unloaded.answer in absurd (cc)
headline_of name times netlist status text sink (inr (fits, inr (inl formless))) grown is = let e = formless.answer in absurd (cc)
headline_of name times netlist status text sink (inr (fits, inr (inr signed))) grown is = elim signed.judged [
  | inl a ↦ record {
    flat = signed.flat;
    clock = signed.clock;
    circuit = signed.circuit;
    only = signed.only;
    one_clock = signed.one_clock;
    lines = a.depths;
    depths = a.depths_are;
    runs = a.runs;
    printed = subst (Grows sink.before sink.now) a.printed grown;
  }
  | inr (inl r) ↦ let e = r.answer in absurd (cc)
  | inr (inr t) ↦ let e = t.answer in absurd (cc)
]

long_of : (name : List ℕ) (times : Times) (netlist : List ℕ) (status : Status) (text : List ℕ) → Replies name times netlist status text → most_bytes < length netlist → text ≡ long_line name
long_of name times netlist status text (inl long) more = long.2
long_of name times netlist status text (inr (fits, verdict)) more = absurd (omega arith)

-- ---- the clauses

sound_of : (folder : FolderRun) (words : List (List ℕ)) (status : Status) (text : List ℕ) → IsDue folder words status text → status ≢ Fault → folder.now ≡ folder.before
sound_of folder words status text (inl usage) f = usage.sound
sound_of folder words status text (inr (name, times, asks, inl unread)) f = absurd (f unread.answer)
sound_of folder words status text (inr (name, times, asks, inr (inl long))) f = long.sound
sound_of folder words status text (inr (name, times, asks, inr (inr answered))) f = answered.sound

pub sound_stands : (folder : FolderRun) (words : List (List ℕ)) (status : Status) (sink : SinkRun) → Runs folder words status sink → status ≢ Memory → status ≢ Fault → folder.now ≡ folder.before
sound_stands folder words status sink runs m f = elim (settle folder words status sink runs) [
  | inl memory ↦ absurd (m memory.0)
  | inr (inl fault) ↦ absurd (f fault.0)
  | inr (inr whole) ↦ sound_of folder words status whole.text whole.due f
]

pub accepted_exact : (folder : FolderRun) (words : List (List ℕ)) (status : Status) (sink : SinkRun) → Runs folder words status sink →
    IfTold folder.told words (λ name times netlist. ExactlyWhere (HasDesign times netlist (λ design. HasNoWindow design × IsShallow design)) Accepted status)
accepted_exact folder words status sink runs name times netlist asks told =
    let end = λ (m : status ≢ Memory) (f : status ≢ Fault). run_to folder words name times netlist status sink asks told m f (settle folder words status sink runs) in
    record {
      only = λ is. let r = end (λ e. cc) (λ e. cc) in is_accepted name times netlist status r.text r.reply is;
      comes = λ (fits, (flat, clock, wires, (none, shallow))) m f.
          let r = end m f in accepted_comes _ status r.text (judged_so name times netlist status r.text flat clock fits wires r.reply) none shallow;
    }

pub rejected_exact : (folder : FolderRun) (words : List (List ℕ)) (status : Status) (sink : SinkRun) → Runs folder words status sink →
    IfTold folder.told words (λ name times netlist. ExactlyWhere (HasDesign times netlist HasWindow) Rejected status)
rejected_exact folder words status sink runs name times netlist asks told =
    let end = λ (m : status ≢ Memory) (f : status ≢ Fault). run_to folder words name times netlist status sink asks told m f (settle folder words status sink runs) in
    record {
      only = λ is. let r = end (λ e. cc) (λ e. cc) in is_rejected name times netlist status r.text r.reply is;
      comes = λ (fits, (flat, clock, wires, some)) m f. let r = end m f in rejected_comes _ status r.text (judged_so name times netlist status r.text flat clock fits wires r.reply) some;
    }

pub refused_exact : (folder : FolderRun) (words : List (List ℕ)) (status : Status) (sink : SinkRun) → Runs folder words status sink →
    IfTold folder.told words (λ name times netlist. ExactlyWhere (IsRefusable times netlist) Refused status)
refused_exact folder words status sink runs name times netlist asks told =
    let end = λ (m : status ≢ Memory) (f : status ≢ Fault). run_to folder words name times netlist status sink asks told m f (settle folder words status sink runs) in
    record {
      only = λ is. let r = end (λ e. cc) (λ e. cc) in is_refused name times netlist status r.text r.reply is;
      comes = λ has m f. let r = end m f in refused_comes name times netlist status r.text r.reply has;
    }

pub refusal_stands : (folder : FolderRun) (words : List (List ℕ)) (status : Status) (sink : SinkRun) → Runs folder words status sink →
    IfTold folder.told words (λ name times netlist. ¬ IsTooLarge netlist → status ≡ Refused → HasRefusal times netlist sink)
refusal_stands folder words status sink runs name times netlist asks told fits is =
    let r = run_to folder words name times netlist status sink asks told (λ e. cc) (λ e. cc) (settle folder words status sink runs) in
    (r.text, subst (λ (s : Status). IsVerdict times netlist s r.text) is (refusal_of name times netlist status r.text r.reply fits), r.grown)

pub long_stands : (folder : FolderRun) (words : List (List ℕ)) (status : Status) (sink : SinkRun) → Runs folder words status sink →
    IfTold folder.told words (λ name times netlist. IsTooLarge netlist → status ≡ Refused → Grows sink.before sink.now (long_line name))
long_stands folder words status sink runs name times netlist asks told more is =
    let r = run_to folder words name times netlist status sink asks told (λ e. cc) (λ e. cc) (settle folder words status sink runs) in
    rw (← long_of name times netlist status r.text r.reply more) r.grown

pub report_stands : (folder : FolderRun) (words : List (List ℕ)) (status : Status) (sink : SinkRun) → Runs folder words status sink →
    IfTold folder.told words (λ name times netlist. (status ≡ Accepted) ⊎ (status ≡ Rejected) → HasReport times netlist status sink)
report_stands folder words status sink runs name times netlist asks told is =
    let r = run_to folder words name times netlist status sink asks told
    (λ e. elim is [ inl a ↦ cc | inr b ↦ cc ]) (λ e. elim is [ inl a ↦ cc | inr b ↦ cc ]) (settle folder words status sink runs) in
    (r.text, report_of name times netlist status r.text r.reply is, r.grown)

pub headline_stands : (folder : FolderRun) (words : List (List ℕ)) (status : Status) (sink : SinkRun) → Runs folder words status sink →
    IfTold folder.told words (λ name times netlist. status ≡ Accepted → HasHeadline times netlist sink)
headline_stands folder words status sink runs name times netlist asks told is =
    let r = run_to folder words name times netlist status sink asks told (λ e. cc) (λ e. cc) (settle folder words status sink runs) in
    headline_of name times netlist status r.text sink r.reply r.grown is
