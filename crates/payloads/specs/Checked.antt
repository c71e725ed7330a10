-- Values that can be made only where a test holds.
use Rattle.std.specs.Prelude.{◌≡◌, Bool, true, false, Some, None, Option, refl}

-- What is made where the test holds, and else nothing.
unfoldable pub checked : {X : Type 0} (test : Bool) → (test ≡ true → X) → Option X
checked true make = Some (make refl)
checked false make = None
