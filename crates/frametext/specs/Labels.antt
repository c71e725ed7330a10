-- The text of each label.
use Rattle.std.specs.Prelude.{ℕ, List, codes}
use Rattle.frametext.specs.declared.fault.Label.{Label}
use Rattle.frametext.specs.declared.fault.Label.TheVariants.{S, R, N, L, Place, Step, Lift, Door, Floor}

abbrev pub label_text : Label → List ℕ
label_text S = codes "s="
label_text R = codes "r="
label_text N = codes "n="
label_text L = codes "l="
label_text Place = codes "place="
label_text Step = codes "step="
label_text Lift = codes "lift="
label_text Door = codes "door="
label_text Floor = codes "floor="
