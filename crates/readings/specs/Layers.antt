-- A layer beside another that differs in few fields.
use Rattle.std.specs.Prelude.{ℕ}
use Rattle.layer.specs.declared.Layer.{Layer}

-- the layer with this version and this number of images, and every other field as it is
abbrev pub layer_with : ℕ → ℕ → Layer → Layer
layer_with version n l =
    record {
      version = version;
      op = l.op;
      axes = l.axes;
      n = n;
      c = l.c;
      g = l.g;
      o = l.o;
      i = l.i;
      z = l.z;
      y = l.y;
      x = l.x;
      auto_pad = l.auto_pad;
      rounding = l.rounding;
      axis = l.axis;
    }
