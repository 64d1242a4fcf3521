-- What a refusal says.
--   rank l        the number of the layer l: 1 the text, 2 the layout, 3 the map
--   number_of g   the number of the ground g
--   layer_of g    the number of the layer that finds it
--   fault g p     the fault of ground g at the place p
use Rattle.std.specs.Prelude.{ℕ}
use Rattle.text.specs.declared.faults.Fault.{Fault}
use Rattle.text.specs.declared.faults.Layer.{Layer}
use Rattle.text.specs.declared.faults.Layer.TheVariants.{Text, Layout, Map}
use Rattle.text.specs.declared.faults.Ground.{Ground}
use Rattle.text.specs.declared.faults.Ground.TheVariants.{Space, Stray, Long, Early, Heading, Limits, Over, Colour, Coordinate, Corner, Shape, Edge}

abbrev pub rank : Layer → ℕ
rank Text = 1
rank Layout = 2
rank Map = 3

abbrev pub number_of : Ground → ℕ
number_of Space = 6
number_of Stray = 10
number_of Long = 11
number_of Early = 12
number_of Heading = 13
number_of Limits = 14
number_of Over = 15
number_of Colour = 16
number_of Coordinate = 17
number_of Corner = 18
number_of Shape = 19
number_of Edge = 20

abbrev pub layer_of : Ground → ℕ
layer_of Space = 2
layer_of Stray = 1
layer_of Long = 1
layer_of Early = 1
layer_of Heading = 2
layer_of Limits = 2
layer_of Over = 2
layer_of Colour = 3
layer_of Coordinate = 3
layer_of Corner = 3
layer_of Shape = 3
layer_of Edge = 3

abbrev pub fault : Ground → ℕ → Fault
fault g p = record { cause = g; place = p }
