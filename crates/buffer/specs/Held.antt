-- What a buffer's words hold.
use Rattle.fields.specs.Layout.{nodes_of}
use Rattle.model.specs.Nodes.{Nodes}
use Rattle.buffer.specs.declared.Buffer.{Buffer}

abbrev pub nodes_in : Buffer → Nodes
nodes_in b = nodes_of b.words.items
