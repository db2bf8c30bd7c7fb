-- THE NUMBERS OF THE REFUSALS, as the table has them.
use Rattle.std.specs.Prelude.{ℕ, Result, Ok, Err}
use Rattle.refusals.specs.declared.Refusal.{Refusal}
use Rattle.refusals.specs.declared.Refusal.TheVariants.{CutShort, NoSuchKind, StrayField, WrongLength, NotReady, AlreadyStarted, WrongSize, NoSuchStation, NoSuchCart, AlreadyEntered, EmptySet, NamedOutside, NumbersUsed, RoomsTaken, EmptyLine, NotAtStation, NotAtHead, Outside, OnItsWay, AlreadyThere, ShortBuffer, EmptyText, Unsteady, NoSuchGroup, StoreFull, NotHeld, StillNamed, TooManyEntries, EmptyList}

abbrev pub number_of : Refusal → ℕ
number_of CutShort = 1
number_of NoSuchKind = 2
number_of StrayField = 3
number_of WrongLength = 4
number_of NotReady = 5
number_of AlreadyStarted = 6
number_of WrongSize = 7
number_of NoSuchStation = 8
number_of NoSuchCart = 9
number_of AlreadyEntered = 10
number_of EmptySet = 11
number_of NamedOutside = 12
number_of NumbersUsed = 13
number_of RoomsTaken = 14
number_of EmptyLine = 15
number_of NotAtStation = 16
number_of NotAtHead = 17
number_of Outside = 18
number_of OnItsWay = 19
number_of AlreadyThere = 20
number_of ShortBuffer = 21
number_of EmptyText = 24
number_of Unsteady = 25
number_of NoSuchGroup = 26
number_of StoreFull = 27
number_of NotHeld = 28
number_of StillNamed = 29
number_of TooManyEntries = 30
number_of EmptyList = 31

-- what checks come to, as the written checks have it: the refusal's number, or 0 where nothing is refused
abbrev pub refusal_in : {A : Type 0} → Result A Refusal → ℕ
refusal_in (Ok a) = 0
refusal_in (Err refusal) = number_of refusal
