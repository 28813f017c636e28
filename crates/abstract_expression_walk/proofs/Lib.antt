mod DeclarationMaking
mod LayerMaking
