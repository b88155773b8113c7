-- What is read of a source, and what is written to a sink (own).
use Rattle.std.specs.Prelude.{◌≡◌, ℕ, ◌<◌, ◌≤◌, Bool, true, false, List, [], ◌++◌, length, Option, Some}
use Rattle.qh_spec.specs.Fault.{Rose}
use Rattle.qh_spec.specs.Script.{max_script}

-- what was left to be read began with this text, and what stood behind it is left
abbrev pub HasRead : (before after : Option (List ℕ)) → List ℕ → Type 0
HasRead before after text = (left : List ℕ) → before ≡ Some left → (rest : List ℕ) × (left ≡ text ++ rest) × (after ≡ Some rest)

-- what was left to be read was this text, and it was read to its end
abbrev pub IsRead : (before after : Option (List ℕ)) → List ℕ → Type 0
IsRead before after text = (left : List ℕ) → before ≡ Some left → (left ≡ text) × (after ≡ Some [])

-- the source's text, read to its end, or a front of it that is longer than a script may be
pub data IsInput (before after : Option (List ℕ)) (text : List ℕ) : Type 0 where
  all : IsRead before after text → IsInput before after text
  front : HasRead before after text → max_script < length text → IsInput before after text

-- this text was written behind what stood there
abbrev pub IsAppended : (before after : Option (List ℕ)) → List ℕ → Type 0
IsAppended before after text = (written : List ℕ) → before ≡ Some written → after ≡ Some (written ++ text)

-- the text was written whole, and the status is this one; or the sink failed behind a front of the text, and it is 11
pub data IsWritten (status : ℕ) (text : List ℕ) (before after : Option (List ℕ)) (faults_before faults_after : ℕ) : ℕ → Type 0 where
  whole : IsAppended before after text → IsWritten status text before after faults_before faults_after status
  cut : (front rest : List ℕ) → text ≡ front ++ rest → IsAppended before after front → Rose faults_before faults_after
      → IsWritten status text before after faults_before faults_after 11

-- the text was written whole, as the answer says; or the sink failed behind a front of it
pub data WritesText (text : List ℕ) (before after : Option (List ℕ)) (faults_before faults_after : ℕ) : Bool → Type 0 where
  all_written : IsAppended before after text → faults_before ≤ faults_after → WritesText text before after faults_before faults_after true
  front_written : (front rest : List ℕ) → text ≡ front ++ rest → IsAppended before after front → Rose faults_before faults_after
      → WritesText text before after faults_before faults_after false

-- a piece of bytes, which isn't empty, was read and put behind what stood there
pub record IsPiece (before after : Option (List ℕ)) (old new : List ℕ) : Type 0 where
  pub bytes : List ℕ
  pub some : 0 < length bytes
  pub is : new ≡ old ++ bytes
  pub read : HasRead before after bytes

-- nothing was left to be read
abbrev pub IsAtEnd : (before after : Option (List ℕ)) → Type 0
IsAtEnd before after = (left : List ℕ) → before ≡ Some left → (left ≡ []) × (after ≡ Some [])
