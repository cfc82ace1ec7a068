-- What the laws of `laws` answer with: each is the clause of one of them.
use Rattle.std.proofs.Common.{ℕ, ◌≤◌, ◌↔◌, List, length}
use Rattle.verilog_lex.specs.Reads.{Reads, IsLexFault, IsOnlyReading, IsOnlyFault, HasDivision}
use Rattle.verilog_lex.specs.Words.{words_of, AreSpelled, ArePlaced, HasOnlyBlanksBetween}
use Rattle.verilog_lex.specs.Bare.{IsBare}
use Rattle.verilog_lex.specs.Written.{WrittenWordsAreRead}
use Rattle.verilog_lex.specs.declared.token.Token.{Token}
use Rattle.verilog_lex.specs.declared.token.LexWhy.{LexWhy}
use Rattle.verilog_lex.proofs.OneDivision as division
use Rattle.verilog_lex.proofs.Words as words
use Rattle.verilog_lex.proofs.Placed as placed
use Rattle.verilog_lex.proofs.WrittenRead as written
use Rattle.verilog_lex.proofs.Divides as divides
use Rattle.verilog_lex.proofs.Gaps as gaps

-- a reading is the only one
pub reading_is_only : (text : List ℕ) (tokens : List Token) → Reads text tokens → IsOnlyReading text tokens
reading_is_only text tokens r = division.only_reading text tokens r

-- a fault is the only one
pub fault_is_only : (text : List ℕ) (offset : ℕ) (why : LexWhy) → IsLexFault text offset why → IsOnlyFault text offset why
fault_is_only text offset why f = division.only_fault text offset why f

-- every text has a reading or a fault
pub text_divides : (text : List ℕ) → HasDivision text
text_divides text = divides.divides text

-- each token is spelled as its kind is
pub tokens_spelled : (text : List ℕ) (tokens : List Token) → Reads text tokens → AreSpelled (words_of text tokens)
tokens_spelled text tokens r = words.all_spelled text tokens r

-- the tokens stand in the text, one behind the other
pub tokens_placed : (text : List ℕ) (tokens : List Token) → Reads text tokens → ArePlaced (length text) 0 tokens
tokens_placed text tokens r = placed.all_placed text tokens r

-- each token has a byte of its own
pub tokens_few : (text : List ℕ) (tokens : List Token) → Reads text tokens → length tokens ≤ length text
tokens_few text tokens r = placed.few text tokens r

-- blanks alone stand between the tokens exactly where the text is blanks and tokens alone
pub gaps_tell : (text : List ℕ) (tokens : List Token) → Reads text tokens → HasOnlyBlanksBetween text 0 tokens ↔ IsBare text tokens
gaps_tell text tokens r = gaps.gaps_tell text tokens r

-- what is written word by word is read so
pub written_read : WrittenWordsAreRead
written_read = written.written_read
