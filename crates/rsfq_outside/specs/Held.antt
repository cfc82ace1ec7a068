-- What the folder and the sink in memory hold, and what each of their calls makes of it.
use Rattle.std.specs.Prelude.{ℕ, List, ◌++◌, Some, refl}
use Rattle.std.specs.Coded.{Coded, code_by, coded×, coded_ℕ, coded_list, coded_option}
use Rattle.std.specs.FinMap as map
use Rattle.std.specs.declared.option.Option.{Option}
use Rattle.rsfq_outside.specs.contracts.fault.CallKind as call_kind
use Rattle.rsfq_outside.specs.Causes.{Call, next_count}
use Rattle.rsfq_outside.specs.Told.{Files}

-- a folder: its files, the numbers of the calls that fail, how many calls were made, how many failed, and the last that failed
pub record HeldFolder : Type 0 where
  pub files : Files
  pub fails : List ℕ
  pub calls : ℕ
  pub faults : ℕ
  pub blamed : Option Call

-- the number of a folder's next call, counted from 1
abbrev pub next_call : HeldFolder → ℕ
next_call folder = next_count folder.calls

-- the folder after a call that was answered
abbrev pub after_call : HeldFolder → HeldFolder
after_call folder = record folder { calls = next_call folder }

-- the folder after a call that failed: no file has changed, and this call is the one to blame
abbrev pub after_failed_call : HeldFolder → Call → HeldFolder
after_failed_call folder call = record folder { calls = next_call folder; faults = next_count folder.faults; blamed = Some call }

-- a sink: its bytes, how many it takes in all, the numbers of the writes that fail, how many were made, and how many failed
pub record HeldSink : Type 0 where
  pub written : List ℕ
  pub room : ℕ
  pub fails : List ℕ
  pub calls : ℕ
  pub faults : ℕ

-- the number of a sink's next write, counted from 1
abbrev pub next_write : HeldSink → ℕ
next_write sink = next_count sink.calls

-- the sink after a write that took these bytes
abbrev pub after_write : HeldSink → List ℕ → HeldSink
after_write sink bytes = record sink { written = sink.written ++ bytes; calls = next_write sink }

-- the sink after a write that failed
abbrev pub after_failed_write : HeldSink → HeldSink
after_failed_write sink = record sink { calls = next_write sink; faults = next_count sink.faults }

-- the codes of their parts, by which a proof tells two of them apart
abbrev pub bytes_code : Coded (List ℕ)
bytes_code = coded_list coded_ℕ

abbrev pub files_code : Coded Files
files_code = map.code bytes_code bytes_code

abbrev pub blamed_code : Coded (Option Call)
blamed_code = coded_option (coded× call_kind.the_row.coded bytes_code)

abbrev pub held_folder_code : Coded HeldFolder
held_folder_code =
    code_by (Files × (List ℕ × (ℕ × (ℕ × Option Call)))) (coded× files_code (coded× bytes_code (coded× coded_ℕ (coded× coded_ℕ blamed_code))))
    (λ h. (h.files, (h.fails, (h.calls, (h.faults, h.blamed)))))
    (λ p. record { files = p.0; fails = p.1.0; calls = p.1.1.0; faults = p.1.1.1.0; blamed = p.1.1.1.1 })
    (λ _. refl)

abbrev pub held_sink_code : Coded HeldSink
held_sink_code =
    code_by (List ℕ × (ℕ × (List ℕ × (ℕ × ℕ)))) (coded× bytes_code (coded× coded_ℕ (coded× bytes_code (coded× coded_ℕ coded_ℕ))))
    (λ h. (h.written, (h.room, (h.fails, (h.calls, h.faults)))))
    (λ p. record { written = p.0; room = p.1.0; fails = p.1.1.0; calls = p.1.1.1.0; faults = p.1.1.1.1 })
    (λ _. refl)
