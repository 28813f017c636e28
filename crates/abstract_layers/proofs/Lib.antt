mod ControlMaking
mod ShapeMaking
