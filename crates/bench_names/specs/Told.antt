-- How a number is told: by its name, or where it has none by a word and the number.
use Rattle.std.specs.Prelude.{ℕ, List, [], ◌∷◌, ◌++◌, Option, Some, None, codes, eqb, ◌&&◌, if◌then◌else◌}
use Rattle.std.specs.Option.{option_map}
use Rattle.std.specs.Fmt.{decimal}
use Rattle.text_buffer.specs.Tables.{nth_name}
use Rattle.bench_names.specs.Naming.{drop_reasons}
use Rattle.bench_names.specs.declared.names.Called.{Called}

-- an entry of a table of names, of which an empty one is none
abbrev pub named : List ℕ → Option (List ℕ)
named [] = None
named (x ∷ l) = Some (x ∷ l)

-- the name, or the word and the number
abbrev pub called : Option (List ℕ) → List ℕ → ℕ → List ℕ
called None word number = word ++ 32 ∷ decimal number
called (Some name) word number = name

-- the text of what a number is called
abbrev pub call_of : Called → List ℕ
call_of call = called (option_map (λ name. name.now) call.name) call.word.now call.number

-- of alarms, only the UNI's first has a name
abbrev pub alarm_name : ℕ → ℕ → Option (List ℕ)
alarm_name class number = if eqb class 11 && eqb number 0 then Some (codes "LAN loss of signal") else None

-- a drop and its reason
abbrev pub drop_text : ℕ → List ℕ
drop_text number = codes "dropped " ++ (decimal number ++ (codes ": " ++ nth_name number drop_reasons))
