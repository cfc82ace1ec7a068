-- What clap's tests say of the command.
use Rattle.std.proofs.Common.{◌≡◌, true, refl}
use Rattle.clap.specs.Words.{is_simple, is_simple_and_free}
use Rattle.lrat_check.specs.Usage.{lrat_command}

pub lrat_simple : is_simple lrat_command ≡ true
unfolding lrat_command
lrat_simple = refl

pub lrat_free : is_simple_and_free lrat_command ≡ true
unfolding lrat_command
lrat_free = refl
