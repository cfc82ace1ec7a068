use Rattle.std.proofs.Common.{length, inl, inr}
use Rattle.aiger_read.specs.Text.{text_at}
use Rattle.aiger_read.proofs.Faults.{refusal_of}
use Rattle.aiger_read.proofs.Listings.{text_ok}
use Rattle.aiger_read.proofs.ascii.read_ascii.Goals as goal

pub order_text-requires-clause-listing : goal.order_text-requires-clause-listing
order_text-requires-clause-listing c = text_ok c.args.bytes.now c.in-Ok.text c.in-Ok.ensures

pub returns-in-Err-clause-fault : goal.returns-in-Err-clause-fault
returns-in-Err-clause-fault c =
    elim (refusal_of (length c.args.bytes.now) c.in-Err.stop c.fault_of.result (text_at c.args.bytes.now) c.in-Err.ensures c.fault_of.ensures) [ inl memory ↦ inl memory | inr at ↦ inr (inl at) ]
