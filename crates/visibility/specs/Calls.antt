-- Calls with no space lent: what each must answer.
--   Answered w h c r   what the call c after h must answer, by the kind of call; a bitmap has no space, and a witness is not to be had
use Rattle.std.specs.Prelude.{◌≡◌, true, false, List, [], Ok, Result}
use Rattle.visibility.specs.declared.refusal.Refusal.{Refusal}
use Rattle.visibility.specs.declared.call.Call.{Call}
use Rattle.visibility.specs.declared.call.Call.TheVariants.{Fill, Shows, Shut, Open, Witness, Bitmap}
use Rattle.visibility.specs.declared.call.Answer.{Answer}
use Rattle.visibility.specs.declared.call.Answer.TheVariants.{NotSharp}
use Rattle.visibility.specs.Replies.{TurnAnswered, FillAnswered, ShowsAnswered, BitmapAnswered}
use Rattle.visibility.specs.Worlds.{World}

abbrev pub Answered : World → List Call → Call → Result Answer Refusal → Type 0
Answered w h (Fill a) r = FillAnswered w h a r
Answered w h (Shows a b) r = ShowsAnswered w h a b r
Answered w h (Shut k) r = TurnAnswered w h (Shut k) k true r
Answered w h (Open k) r = TurnAnswered w h (Open k) k false r
Answered w h (Witness a b) r = r ≡ Ok NotSharp
Answered w h Bitmap r = BitmapAnswered w h r [] []
