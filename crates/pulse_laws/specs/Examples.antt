-- Small designs with runs and offences of their own: the definitions mean what they say on them.
--
-- The wire is `module top(input clk, input a, output y); JTL j(.a(a), .q(y)); endmodule`, the register the same with
-- `DFF u1(.a(a), .clk(clk), .q(y));` in place of the JTL. Ports, nets and pins are numbered in this order.
use Rattle.std.specs.Prelude.{◌≤ℤ◌, ◌≡◌, true, false, ℤ, pos, List, [], ◌∷◌, Some, None}
use Rattle.rsfq_ids.specs.declared.table.CellRow.{CellRow}
use Rattle.rsfq_ids.specs.declared.table.Kind.TheVariants as kind
use Rattle.rsfq_ids.specs.declared.circuit.PortBit.{PortBit}
use Rattle.rsfq_ids.specs.declared.circuit.Bench.{Bench}
use Rattle.rsfq_ids.specs.declared.circuit.Strobe.{Strobe}
use Rattle.rsfq_ids.specs.declared.circuit.PortUse.TheVariants as port_use
use Rattle.rsfq_ids.specs.declared.circuit.Driver.TheVariants as driver
use Rattle.rsfq_ids.specs.declared.circuit.Reader.TheVariants as reader
use Rattle.rsfq_ids.specs.declared.offence.PathPick.{PathPick}
use Rattle.rsfq_ids.specs.declared.offence.PathArc.TheVariants as arc
use Rattle.rsfq_ids.specs.declared.offence.Against.TheVariants as against
use Rattle.rsfq_ids.specs.declared.offence.Offence.TheVariants as offence
use Rattle.rsfq_ids.specs.Design.{Design}
use Rattle.rsfq_ids.specs.Bench.{tick_at}
use Rattle.rsfq_ids.specs.Run.{Run, IsRun, stream_bit}
use Rattle.rsfq_ids.specs.Offence.{OffenceExists}
use Rattle.rsfq_ids.specs.Ready.{IsSetUp}
use Rattle.rsfq_ids.specs.Signed.{IsSigned}
use Rattle.pulse_laws.specs.Statements.{HasOutputValue}
use Rattle.pulse_laws.specs.Wires.{IsSourceBit}

-- ---- the wire

abbrev pub jtl : CellRow
jtl = record {
  name = 74 ∷ 84 ∷ 76 ∷ [];
  kind = kind.Jtl;
  inputs = (97 ∷ []) ∷ [];
  clock = None;
  outputs = (113 ∷ []) ∷ [];
  truth = 0;
  low = pos 2000;
  high = pos 3000;
  setup = pos 0;
  hold = pos 0;
  dead = pos 0;
}

abbrev pub ports : List PortBit
ports = record { name = 99 ∷ 108 ∷ 107 ∷ []; output = false } ∷ record { name = 97 ∷ []; output = false } ∷ record { name = 121 ∷ []; output = true } ∷ []

-- A bench with a period of 20000 fs, no jitter, and arrivals in this interval.
abbrev pub bench_of : ℤ → ℤ → Strobe → Bench
bench_of low high strobe = record { period = pos 20000; jitter = pos 0; clock = 0; uses = port_use.Clock ∷ port_use.Arrival low high ∷ port_use.Strobed strobe ∷ [] }

abbrev pub wire : ℤ → ℤ → Design
wire low high = record {
  table = record { rows = jtl ∷ [] };
  flat = record {
    ports = ports;
    cells = record { path = 106 ∷ []; row = 0 } ∷ [];
    nets = driver.Port 0 ∷ driver.Port 1 ∷ driver.Out 0 0 ∷ [];
    pins = record { reader = reader.Pin 0 0; net = 1 } ∷ record { reader = reader.Port 2; net = 2 } ∷ [];
  };
  bench = bench_of low high (record { offset = pos 0; setup = pos 1; hold = pos 1 });
}

-- Words 0 and 1, two clock pulses; the pulse of word 1 arrives at 25000 and takes 2500 through the JTL.
abbrev pub wire_run : Run
wire_run = record {
  words = (false ∷ []) ∷ (true ∷ []) ∷ [];
  clocks = 2;
  tick = tick_at (wire (pos 4000) (pos 6000)).bench;
  pulses = (pos 0 ∷ pos 20000 ∷ []) ∷ (pos 25000 ∷ []) ∷ (pos 27500 ∷ []) ∷ [];
}

-- It is a run of the well-formed wire, and the output's stream has a 1 at strobe 2 alone of the first three.
pub record WireRuns : Type 0 where
  pub set_up : IsSetUp (wire (pos 4000) (pos 6000))
  pub is_run : IsRun (wire (pos 4000) (pos 6000)) wire_run
  pub zero_bit : stream_bit (record { offset = pos 0; setup = pos 1; hold = pos 1 }) wire_run.tick 0 (pos 27500 ∷ []) ≡ false
  pub one_bit : stream_bit (record { offset = pos 0; setup = pos 1; hold = pos 1 }) wire_run.tick 1 (pos 27500 ∷ []) ≡ false
  pub two_bit : stream_bit (record { offset = pos 0; setup = pos 1; hold = pos 1 }) wire_run.tick 2 (pos 27500 ∷ []) ≡ true

-- the pulse of word 0 that arrives so late and takes the greatest delay of the JTL
abbrev pub late_pulse : ℤ → PathPick
late_pulse arrival = record { arcs = arc.Port 1 ∷ arc.Through 0 0 0 ∷ []; delays = arrival ∷ pos 3000 ∷ []; number = 0; ends = 1 }

-- With arrivals up to 17000 a pulse may come exactly at strobe 1, at 20000, which offends; one exactly at the edge of the zone, at 19999, does not.
pub record WireOffends : Type 0 where
  pub inside : OffenceExists (wire (pos 4000) (pos 17000)) (offence.Window 1 (late_pulse (pos 17000)) (against.Strobe 1))
  pub edge : ¬ OffenceExists (wire (pos 4000) (pos 17000)) (offence.Window 1 (late_pulse (pos 16999)) (against.Strobe 1))

-- With arrivals from 4000 up to 16999 or less the wire is signed off with depth 1: every run of it is clean, and bit j + 1 of its output's stream is the bit of word j at its input.
abbrev pub WireIsSigned : Type 0
WireIsSigned = (high : ℤ) → pos 4000 ≤ℤ high → high ≤ℤ pos 16999 → IsSigned (wire (pos 4000) high) (IsSourceBit (wire (pos 4000) high) ((2, 1, 1) ∷ [])) ((2, 1) ∷ [])

-- ---- the register

abbrev pub dff : CellRow
dff = record {
  name = 68 ∷ 70 ∷ 70 ∷ [];
  kind = kind.Gate;
  inputs = (97 ∷ []) ∷ [];
  clock = Some (99 ∷ 108 ∷ 107 ∷ []);
  outputs = (113 ∷ []) ∷ [];
  truth = 2;
  low = pos 5000;
  high = pos 7000;
  setup = pos 2000;
  hold = pos 1000;
  dead = pos 10000;
}

abbrev pub register : Design
register = record {
  table = record { rows = dff ∷ [] };
  flat = record {
    ports = ports;
    cells = record { path = 117 ∷ 49 ∷ []; row = 0 } ∷ [];
    nets = driver.Port 0 ∷ driver.Port 1 ∷ driver.Out 0 0 ∷ [];
    pins = record { reader = reader.Pin 0 0; net = 1 } ∷ record { reader = reader.Pin 0 1; net = 0 } ∷ record { reader = reader.Port 2; net = 2 } ∷ [];
  };
  bench = bench_of (pos 4000) (pos 6000) (record { offset = pos 0; setup = pos 1000; hold = pos 1000 });
}

-- The word 1 and three clock pulses. Clock pulse 1, at 20000, finds the data pulse of 5000 present and answers at 26000; the others find none.
abbrev pub register_run : Run
register_run = record {
  words = (true ∷ []) ∷ [];
  clocks = 3;
  tick = tick_at register.bench;
  pulses = (pos 0 ∷ pos 20000 ∷ pos 40000 ∷ []) ∷ (pos 5000 ∷ []) ∷ (pos 26000 ∷ []) ∷ [];
}

-- It is a run of the well-formed register, and strobe 2 reads the word's 1.
pub record RegisterRuns : Type 0 where
  pub set_up : IsSetUp register
  pub is_run : IsRun register register_run
  pub one_bit : stream_bit (record { offset = pos 0; setup = pos 1000; hold = pos 1000 }) register_run.tick 1 (pos 26000 ∷ []) ≡ false
  pub two_bit : stream_bit (record { offset = pos 0; setup = pos 1000; hold = pos 1000 }) register_run.tick 2 (pos 26000 ∷ []) ≡ true

-- The register is signed off with depth 2: every run of it is clean, and bit j + 2 of its output's stream is the bit of word j.
abbrev pub RegisterIsSigned : Type 0
RegisterIsSigned = IsSigned register (HasOutputValue register) ((2, 2) ∷ [])
