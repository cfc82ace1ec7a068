use Rattle.pulse_laws.proofs.Register.{register_is_signed}
use Rattle.pulse_laws.proofs.examples.register_is_signed.Goals as goal

pub returns : goal.returns
returns c = register_is_signed
