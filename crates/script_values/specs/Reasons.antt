-- Why a line can't be read, in words.
use Rattle.std.specs.Prelude.{ℕ, List, codes}
use Rattle.script_values.specs.declared.Why.{Why}
use Rattle.script_values.specs.declared.Why.TheVariants as why

abbrev pub reason : Why → List ℕ
reason why.UnknownWord = codes "no call begins with this word"
reason why.NotHex = codes "this is no hex digit"
reason why.HalfByte = codes "this hex digit has no second one"
reason why.NotANumber = codes "this is no number"
reason why.NumberTooLarge = codes "this number is too large"
reason why.MissingWord = codes "a word is missing here"
reason why.TooMuch = codes "this is too much"
reason why.NotOnOrOff = codes "this is neither on nor off"
reason why.NotAProduct = codes "this is neither small, large nor meter"
reason why.TooLong = codes "there is no room for more bytes"
