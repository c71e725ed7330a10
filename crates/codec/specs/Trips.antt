-- What reading and writing owe each other.
use Rattle.std.specs.Prelude.{◌≡◌, ℕ, List, take, Option}
use Rattle.frames.specs.declared.frame.Frame.{Frame}
use Rattle.frames.specs.Answers.{Answer, gives}
use Rattle.codec.specs.Layout.{frame_words}
use Rattle.codec.specs.Writing.{writes}
use Rattle.codec.specs.Reading.{frame_at}

module _ {P : Type 0} where
  -- Where a frame was written, the run now reads as that frame.
  abbrev pub ReadsBack : ℕ → (List ℕ → Option P) → Frame P → Answer ℕ → List ℕ → Type 0
  ReadsBack size reads f wrote run = (n : ℕ) → wrote ≡ gives n → frame_at size reads run ≡ gives (f, n)

  -- Where a frame was read, it can be written, and its words are those that were read.
  abbrev pub WritesBack : (P → List ℕ) → List ℕ → Answer (Frame P × ℕ) → Type 0
  WritesBack words run got =
      (f : Frame P) (n : ℕ) → got ≡ gives (f, n) → (writes words f n ≡ gives n) × (take n run ≡ frame_words words f)
